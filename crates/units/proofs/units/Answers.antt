-- `units::units` meets its contract: the length of each text that is made of a blob. Assumes nothing.
use Rattle.units.proofs.UnitAt.{units_hex, units_base64}
use Rattle.units.proofs.units.Goals as goal

pub returns-in-HexDigits : goal.returns-in-HexDigits
returns-in-HexDigits c = units_hex c.args.payload.now c.in-HexDigits.is

pub returns-in-Base64Letters : goal.returns-in-Base64Letters
returns-in-Base64Letters c = units_base64 c.args.payload.now c.in-Base64Letters.is
