-- `marks::fill` meets its contract. The invariant: the marks of the rows passed are stored.
use Prim.Native.Nat.{◌≤◌}
use Rattle.marks.specs.Marks.{MarksOf}
use Rattle.marks.proofs.fill.Given as goal

abbrev pub invariant-loop-k : goal.invariant-loop-k
invariant-loop-k l = (l.k ≤ l.qrows) × MarksOf l.doc l.names l.qnames l.classes l.rows l.k l.marks
