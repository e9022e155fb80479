-- `chunks::little_at` meets its contract. The bytes are read from the last; the loop's invariant is `Summed`. Assumes nothing.
use Rattle.std.proofs.Common.{◌-◌}
use Rattle.sequences.specs.Lists.{part}
use Rattle.chunks.proofs.Little.{Summed}
use Rattle.chunks.proofs.little_at.Given as goal

abbrev pub invariant-loop-b : goal.invariant-loop-b
invariant-loop-b l = Summed (part l.p l.from (l.to - l.from)) l.b-iterator.iter.rest.now l.v
