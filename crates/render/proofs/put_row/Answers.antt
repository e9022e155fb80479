-- `render::put_row` meets its contract. Assumes nothing.
use Rattle.render_elements.proofs.Rows.{row_as, row_F7, attribute_stays, depth_less, apart, done_open, done_inner}
use native.Mathlib.Omega.{arith}
use Rattle.render.proofs.put_row.Goals as goal

pub returns-then-token-eq-ELEMENT : goal.returns-then-token-eq-ELEMENT
returns-then-token-eq-ELEMENT c = done_open c.args.source.now.doc.now _ c.if-token-eq-ELEMENT.true c.begin.ensures c.«open».ensures

pub returns-then-token-eq-ENDELEMENT : goal.returns-then-token-eq-ENDELEMENT
returns-then-token-eq-ENDELEMENT c =
    done_inner _ _ _ _ c.if-token-eq-ELEMENT.false
    (row_as (row_F7 c.args.source.now.doc.now c.args.source.now.marks.now c.args.p.depth c.args.p.attribute c.args.token c.args.a _ c.if-token-eq-ENDELEMENT.true) (attribute_stays c.args.source.now.marks.now c.args.p.attribute c.args.token c.args.a (apart _ _ _ c.if-token-eq-ENDELEMENT.true (λ e. let x : ⊥ = omega arith in x)) (apart _ _ _ c.if-token-eq-ENDELEMENT.true (λ e. let x : ⊥ = omega arith in x)))
    (depth_less c.args.p.depth c.args.token c.if-token-eq-ENDELEMENT.true) c.close.ensures)

pub put_other-requires : goal.put_other-requires
put_other-requires c = (c.requires.0, rw c.cell-b.ensures.0 c.requires.1, rw c.cell-b.ensures.0 c.requires.2, c.if-token-eq-ELEMENT.false, c.if-token-eq-ENDELEMENT.false)

pub returns : goal.returns
returns c = done_inner _ _ _ _ c.if-token-eq-ELEMENT.false (rw c.cell-b.ensures.0 at c.put_other.ensures)
