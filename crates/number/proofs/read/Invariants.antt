-- `number::read` meets its contract. The invariant: what is still to be read completes the number (`Going`). The measure is
use Rattle.number.proofs.Going.{Going}
use Rattle.number.proofs.read.Given as goal

abbrev pub invariant-loop-left : goal.invariant-loop-left
invariant-loop-left l = Going l.most l.doc l.at l.value l.scale l.next l.left

abbrev pub decreases-loop-left : goal.decreases-loop-left
decreases-loop-left l = l.left
