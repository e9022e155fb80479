-- `twins::link` meets its contract. The loop's invariant is `State`: what the arrays hold when the parts from i on are done.
use Rattle.twins.proofs.State.{State}
use Rattle.twins.specs.Parts.{part_at}
use Rattle.twins.proofs.link.Given as goal

abbrev pub invariant-loop-i : goal.invariant-loop-i
invariant-loop-i l =
    State (part_at l.syms l.starts) l.n l.i l.next l.slots l.chain l.later l.pairs
