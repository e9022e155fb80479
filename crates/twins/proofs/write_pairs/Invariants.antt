-- `twins::write_pairs` meets its contract. The loop's invariant is `Listed`: the pairs of the parts before i are written.
use Rattle.twins.proofs.Run.{Listed}
use Rattle.twins.specs.Parts.{part_at}
use Rattle.twins.proofs.write_pairs.Given as goal

abbrev pub invariant-loop-i : goal.invariant-loop-i
invariant-loop-i l = Listed (part_at l.syms l.starts) l.n l.initial.pairs l.pairs l.at l.i
