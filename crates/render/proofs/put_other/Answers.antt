-- `render::put_other` meets its contract: one way for each token. Assumes nothing.
use Rattle.render_elements.proofs.Rows.{row_as, row_none, row_value, row_F6, row_F5, row_F2, row_silent, attribute_F6, attribute_F5, attribute_stays, depth_same, low_apart, apart, room_chunk}
use mathlib.Core.Path.{refl}
use native.Mathlib.Omega.{arith}
use Rattle.render.proofs.put_other.Goals as goal

pub returns-then-token-lt-VALUES_END : goal.returns-then-token-lt-VALUES_END
returns-then-token-lt-VALUES_END c = row_as (row_value c.args.source.now.doc.now c.args.source.now.marks.now c.args.p.depth c.args.p.attribute c.args.token c.args.a c.args.b c.if-token-lt-VALUES_END.true) (attribute_stays c.args.source.now.marks.now c.args.p.attribute c.args.token c.args.a (low_apart _ _ c.if-token-lt-VALUES_END.true (omega arith)) (low_apart _ _ c.if-token-lt-VALUES_END.true (omega arith))) (depth_same c.args.p.depth c.args.token c.requires.3 c.requires.4) c.put_value.ensures

pub put_chunk-requires : goal.put_chunk-requires
put_chunk-requires c = (c.requires.1.chunk c.in-242.is, omega (arith, c.requires.2, room_chunk c.args.token c.args.b c.in-242.is))

pub returns-in-246 : goal.returns-in-246
returns-in-246 c = row_as (row_F6 c.args.source.now.doc.now c.args.source.now.marks.now c.args.p.depth c.args.p.attribute c.args.token c.args.a c.args.b c.in-246.is) (attribute_F6 c.args.source.now.marks.now c.args.p.attribute c.args.token c.args.a c.in-246.is) (depth_same c.args.p.depth c.args.token c.requires.3 c.requires.4) c.put_attribute.ensures

pub returns-in-245 : goal.returns-in-245
returns-in-245 c = row_as (row_F5 c.args.source.now.doc.now c.args.source.now.marks.now c.args.p.depth c.args.p.attribute c.args.token c.args.a c.args.b c.in-245.is) (attribute_F5 c.args.source.now.marks.now c.args.p.attribute c.args.token c.args.a c.in-245.is) (depth_same c.args.p.depth c.args.token c.requires.3 c.requires.4) c.end_attributes.ensures

pub returns-in-242 : goal.returns-in-242
returns-in-242 c = row_as (row_F2 c.args.source.now.doc.now c.args.source.now.marks.now c.args.p.depth c.args.p.attribute c.args.token c.args.a c.args.b c.in-242.is) (attribute_stays c.args.source.now.marks.now c.args.p.attribute c.args.token c.args.a (apart _ _ _ c.in-242.is (λ e. let x : ⊥ = omega arith in x)) (apart _ _ _ c.in-242.is (λ e. let x : ⊥ = omega arith in x))) (depth_same c.args.p.depth c.args.token c.requires.3 c.requires.4) c.put_chunk.ensures

pub returns-in_default : goal.returns-in_default
returns-in_default c =
    let r = c.in_default.in_default-own.rest in
    row_as (row_silent c.args.source.now.doc.now c.args.source.now.marks.now c.args.p.depth c.args.p.attribute c.args.token c.args.a c.args.b c.if-token-lt-VALUES_END.false c.requires.3 r.0.0.1 r.0.1 c.requires.4 r.1) (attribute_stays c.args.source.now.marks.now c.args.p.attribute c.args.token c.args.a r.0.0.1 r.0.1) (depth_same c.args.p.depth c.args.token c.requires.3 c.requires.4) (row_none _ _ _ _ _ refl)
