-- `reader::read` meets its contract: 1, then the outer header, then the machine. Assumes nothing.
use Rattle.machine.proofs.Whole.{header_on}
use Rattle.machine.specs.Machine.{room_in}
use Rattle.reader.proofs.Whole.{unread, is_header, begins}
use lib.ListN.{length}
use native.Mathlib.Omega.{arith}
use mathlib.Core.Path.{sym, ◌∙◌}
use Rattle.reader.proofs.read.Goals as goal

pub walk-requires : goal.walk-requires
walk-requires c =
    let w = is_header (length c.args.doc.now) 0 c.in-Ok.is c.header_at.ensures.1 in
    (c.table-table.ensures, rw c.room_of-room.ensures (begins (length c.args.doc.now) c.args.names.now c.args.qnames.now c.args.events.now _ (omega arith) w.1))

pub returns-in-Err : goal.returns-in-Err
returns-in-Err c = unread _ _ _ _ _ _ (header_on c.args.doc.now (room_in (length c.args.names.now) (length c.args.qnames.now) (length c.args.events.now)) (omega arith) c.header_at.ensures.0 c.in-Err.is) (c.none_read-in-Err.ensures ∙ rw c.number.ensures)

pub returns-in-Ok : goal.returns-in-Ok
returns-in-Ok c =
    rw (sym (header_on c.args.doc.now (room_in (length c.args.names.now) (length c.args.qnames.now) (length c.args.events.now)) (omega arith) c.header_at.ensures.0 c.in-Ok.is), ← c.room_of-room.ensures) c.walk.ensures
