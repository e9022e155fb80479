-- `print_lines::put_decimal` meets its contract. The loop's invariant is `DigitsSoFar`. Assumes nothing.
use Rattle.print_lines.proofs.Loops.{DigitsSoFar}
use Rattle.print_lines.proofs.put_decimal.Given as goal

abbrev pub invariant-loop-v : goal.invariant-loop-v
invariant-loop-v l = DigitsSoFar l.n l.v l.initial.text l.text l.end l.at

abbrev pub decreases-loop-v : goal.decreases-loop-v
decreases-loop-v l = l.at
