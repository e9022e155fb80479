-- `twins::write_run` meets its contract. The loop's invariant is `Written`: what is written, and which parts are left.
use Prim.Native.Nat.{◌-◌}
use Rattle.twins.proofs.Run.{Written}
use Rattle.twins.specs.Parts.{part_at}
use Rattle.twins.proofs.write_run.Given as goal

abbrev pub invariant-loop-j : goal.invariant-loop-j
invariant-loop-j l = Written (part_at l.syms l.starts) l.n l.i l.at l.initial.pairs l.pairs l.to l.j

abbrev pub decreases-loop-j : goal.decreases-loop-j
decreases-loop-j l = l.n - l.j
