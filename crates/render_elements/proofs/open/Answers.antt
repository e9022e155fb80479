-- `render_elements::open` meets its contract. Assumes nothing.
use Rattle.render_elements.proofs.Rows.{row_as, row_hashed, opened_is}
use mathlib.Core.Path.{refl}
use Rattle.render_elements.proofs.open.Goals as goal

pub returns : goal.returns
returns c = row_as (opened_is _ _ _ refl) refl refl (row_hashed _ _ c.put_one-cursor.ensures _ refl)
