-- `twins::Parts::find` meets its contract. The loop's invariant is `Walk`: no equal part before j, and j is in the slot of i.
use Prim.Native.Nat.{◌-◌}
use Rattle.twins.proofs.Chain.{Walk}
use Rattle.twins.specs.Parts.{part_at}
use Rattle.twins.proofs.Parts.find.Given as goal

abbrev pub invariant-loop-j : goal.invariant-loop-j
invariant-loop-j l = Walk (part_at l.self.syms.now l.self.starts.now) l.self.n l.i l.j

abbrev pub decreases-loop-j : goal.decreases-loop-j
decreases-loop-j l = l.self.n - l.j
