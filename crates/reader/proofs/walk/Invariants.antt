-- `reader::walk` meets its contract. The invariant: the machine's run from the state reached is the whole run (`Walks`). The measure is the bytes left. Assumes nothing.
use Prim.Native.Nat.{suc, ◌-◌}
use Rattle.machine.specs.Machine.{run, started}
use Rattle.reader.proofs.Walks.{Walks}
use Rattle.rows.specs.Tables.{tables}
use lib.ListN.{length}
use Rattle.reader.proofs.walk.Given as goal

abbrev pub invariant-loop-events : goal.invariant-loop-events
invariant-loop-events l = Walks l.doc l.room l.version (run (suc (length l.doc)) l.doc l.room l.version (started l.version l.next)) l.initial.names l.initial.qnames l.initial.events (tables l.names l.qnames l.events l.stacks) l.v

abbrev pub decreases-loop-events : goal.decreases-loop-events
decreases-loop-events l = length l.doc - l.v.at
