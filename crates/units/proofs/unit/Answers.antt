-- `units::unit` meets its contract: each arm by the law of its plan. Assumes nothing.
use Rattle.std.proofs.Common.{rules}
use Rattle.units.proofs.UnitAt.{short_base64, payload_unit, hex_inside, base64_inside, small_text, text_unit}
use Rattle.units.proofs.unit.Goals as goal

pub hex_unit-requires : goal.hex_unit-requires
hex_unit-requires c =
    hex_inside c.args.payload.now c.args.k c.requires.3 c.in-HexDigits.is

pub base64_unit-requires : goal.base64_unit-requires
base64_unit-requires c =
    let e = c.in-Base64Letters.is in
    (c.requires.0, base64_inside c.args.payload.now c.args.k c.requires.3 e, short_base64 c.args.payload.now e c.requires.1)

pub returns-in-Payload : goal.returns-in-Payload
returns-in-Payload c =
    payload_unit c.args.payload.now c.args.k c.requires.3 c.in-Payload.is c.requires.1 c.unit_of.ensures

pub returns-in-Number : goal.returns-in-Number
returns-in-Number c =
    let a = c.args in
    let f = small_text a.payload.now a.k c.requires.3 a.small.now c.requires.2 (search rules) in
    text_unit a.k _ c.requires.3 c.text.ensures f c.unit_of-in-Number.ensures
