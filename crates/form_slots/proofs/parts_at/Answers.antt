-- `form_slots::parts_at` meets its contract. Assumes nothing.
use Rattle.form_slots.proofs.Slots.{parts_is}
use Rattle.form_slots.proofs.parts_at.Goals as goal

pub returns : goal.returns
returns c = let a = c.args in parts_is a.qnames.now a.classes.now a.k c.cell.ensures.0 c.cell-2.ensures.0 c.cell-3.ensures.0 c.class_at-uri.ensures c.class_at-prefix.ensures c.class_at-local.ensures
