-- `render_elements::end_attributes` meets its contract. Assumes nothing.
use Rattle.render_elements.proofs.Rows.{row_as, row_hashed, out_row, out_in}
use mathlib.Core.Path.{refl}
use Rattle.render_elements.proofs.end_attributes.Goals as goal

pub returns-then-p-eq0 : goal.returns-then-p-eq0
returns-then-p-eq0 c = out_row _ _ _ _ _ _ c.if-p-eq0.true refl

pub returns : goal.returns
returns c = row_as (out_in _ c.if-p-eq0.false refl) refl refl (row_hashed _ _ c.put_close.ensures _ c.moved.ensures)
