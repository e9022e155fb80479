-- `render_elements::put_attribute` meets its contract: one way outside of a record, one for an attribute that declares a prefix, one for any other. Assumes nothing.
use Rattle.render_elements.proofs.Rows.{row_as, row_hashed, out_row, out_in, declared_number, declared_bare, counted_mark, close_few}
use Rattle.render_elements.specs.Codes.{close_by}
use Rattle.symbols.proofs.Going.{hashed_then, put_long}
use mathlib.Core.Path.{refl}
use native.Mathlib.Omega.{arith}
use Rattle.render_elements.proofs.put_attribute.Goals as goal

pub returns-then-p-eq0 : goal.returns-then-p-eq0
returns-then-p-eq0 c = row_as refl (declared_number c.args.marks.now c.args.row _ refl _ c.counts.ensures) refl (out_row _ _ _ _ _ _ c.if-p-eq0.true refl)

pub returns-then-mark-ge-DECLARING : goal.returns-then-mark-ge-DECLARING
returns-then-mark-ge-DECLARING c =
    row_as (out_in _ c.if-p-eq0.false (declared_bare c.args.marks.now c.args.row _ refl (close_by c.args.p.attribute) c.if-mark-ge-DECLARING.true)) (declared_number c.args.marks.now c.args.row _ refl _ c.counts.ensures) refl
    (row_hashed _ _ c.put_close-i.ensures _ c.moved.ensures)

pub put_one-requires : goal.put_one-requires
put_one-requires c =
    let i = c.put_close-i.ensures in
    let f = close_few c.args.p.attribute in
    let l = put_long i.put in
    omega (arith, i.put.to_is, c.requires.2)

pub returns : goal.returns
returns c =
    row_as (out_in _ c.if-p-eq0.false (counted_mark c.args.marks.now c.args.row _ refl (close_by c.args.p.attribute) c.if-mark-ge-DECLARING.false)) (declared_number c.args.marks.now c.args.row _ refl _ c.counts.ensures) refl
    (row_hashed _ _ (hashed_then c.put_close-i.ensures c.put_one.ensures) _ c.moved-2.ensures)
