-- `form_items::look` meets its contract. Assumes nothing.
use Rattle.form_items.proofs.Classed.{looked}
use Rattle.form_items.proofs.look.Goals as goal

pub returns : goal.returns
returns c = looked _ _ _ _ c.cell-code.ensures.0 c.cell-a.ensures.0 c.cell-b.ensures.0 c.class_at.ensures c.item_by.ensures
