-- `form_output::put_number` meets its contract. The loop's invariant is `Left`: what is left to lay completes the spelling. Assumes nothing.
use Rattle.form_output.proofs.Steps.{Left}
use Rattle.form_output.proofs.put_number.Given as goal

abbrev pub invariant-loop-left : goal.invariant-loop-left
invariant-loop-left l = Left l.initial.out l.at l.value l.out l.p l.left

abbrev pub decreases-loop-left : goal.decreases-loop-left
decreases-loop-left l = l.left
