-- `render::put_value` meets its contract: nothing outside of a record nor within a skipped attribute. Assumes nothing.
use Rattle.render_elements.proofs.Rows.{row_as, row_none, row_hashed, out_row, out_in, value_skipped, value_counted}
use mathlib.Core.Path.{refl}
use Rattle.render.proofs.put_value.Goals as goal

pub returns-then-p-eq0 : goal.returns-then-p-eq0
returns-then-p-eq0 c = out_row _ _ _ _ _ _ c.if-p-eq0.true refl

pub returns-then-p-eq-SKIPPED_OPEN : goal.returns-then-p-eq-SKIPPED_OPEN
returns-then-p-eq-SKIPPED_OPEN c = row_as (out_in _ c.if-p-eq0.false (value_skipped c.args.source.now.doc.now c.args.source.now.marks.now c.args.token c.args.a c.args.b c.args.p.attribute c.if-p-eq-SKIPPED_OPEN.true)) refl refl (row_none _ _ _ _ _ refl)

pub put_valued-requires : goal.put_valued-requires
put_valued-requires c = (c.requires.0, c.requires.1, c.requires.2, c.requires.3)

pub returns : goal.returns
returns c = row_as (out_in _ c.if-p-eq0.false (value_counted c.args.source.now.doc.now c.args.source.now.marks.now c.args.token c.args.a c.args.b c.args.p.attribute c.if-p-eq-SKIPPED_OPEN.false)) refl refl (row_hashed _ _ c.put_valued.ensures _ c.moved.ensures)
