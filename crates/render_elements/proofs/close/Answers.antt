-- `render_elements::close` meets its contract: outside of a record nothing is written. Assumes nothing.
use Rattle.render_elements.proofs.Rows.{row_as, row_hashed, out_in, close_out, end_mark}
use mathlib.Core.Path.{refl}
use Rattle.render_elements.proofs.close.Goals as goal

pub returns-then-p-eq0 : goal.returns-then-p-eq0
returns-then-p-eq0 c = close_out _ _ _ c.if-p-eq0.true

pub returns : goal.returns
returns c = row_as (out_in _ c.if-p-eq0.false end_mark) refl refl (row_hashed _ _ c.put_one-cursor.ensures _ refl)
