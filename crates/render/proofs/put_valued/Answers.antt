-- `render::put_valued` meets its contract. Assumes nothing.
use Rattle.render_elements.proofs.Rows.{is_value_lem, room_value, span, part_few, counted_qname, counted_zero, counted_value}
use Rattle.symbols.proofs.Going.{hashed_as, hashed_none}
use mathlib.Core.Path.{refl}
use native.Mathlib.Omega.{arith}
use Rattle.render.proofs.put_valued.Goals as goal

pub returns-then-token-eq-QNAME : goal.returns-then-token-eq-QNAME
returns-then-token-eq-QNAME c = hashed_as (counted_qname c.args.source.now.doc.now c.args.source.now.marks.now c.args.token c.args.a c.args.b _ refl c.if-token-eq-QNAME.true) c.put_one.ensures

pub returns-then-token-eq0 : goal.returns-then-token-eq0
returns-then-token-eq0 c = hashed_as (counted_zero c.args.source.now.doc.now c.args.source.now.marks.now c.args.token c.args.a c.args.b c.if-token-eq0.true) (hashed_none _ _)

pub put_payload-requires : goal.put_payload-requires
put_payload-requires c =
    let v = (c.requires.1.value (is_value_lem _ c.if-token-eq0.false c.requires.2) c.if-token-eq-QNAME.false) in
    let f = part_few c.args.source.now.doc.now c.args.a c.args.b in
    (c.requires.0, rw span v.1, omega (arith, f, v.2), omega (arith, f, c.requires.3, room_value c.args.token c.args.b c.if-token-eq0.false c.requires.2))

pub returns : goal.returns
returns c = hashed_as (counted_value c.args.source.now.doc.now c.args.source.now.marks.now c.args.token c.args.a c.args.b c.if-token-eq-QNAME.false c.if-token-eq0.false c.requires.2) c.put_payload.ensures
