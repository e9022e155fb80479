-- Serves the code. The text of a number or of a truth value, loaded once into the small buffer and then read unit by unit.
use Rattle.std.specs.Prelude.{ℕ, ◌*◌, ◌≡◌, List, length}
use Rattle.sequences.specs.Lists.{bytes_of}
use Rattle.numeral.specs.Numeral.{numeral, truth}
use Rattle.chunks.specs.Chunks.{chunks_value}
use Rattle.plan.specs.declared.Plan.{Plan}
use Rattle.plan.specs.declared.Plan.TheVariants.{Nothing, Payload, Number, Boolean, HexDigits, Base64Letters}

-- the small buffer is as long as the text of a number or of a truth value, two bytes for each unit
abbrev pub UnitsBegin : Plan → List ℕ → Type 0
UnitsBegin Nothing small = Unit
UnitsBegin Payload small = Unit
UnitsBegin (Number minus size scale) small = length small ≡ 2 * length (numeral minus (chunks_value size) scale)
UnitsBegin (Boolean b) small = length small ≡ 2 * length (truth b)
UnitsBegin HexDigits small = Unit
UnitsBegin Base64Letters small = Unit

-- the text of a number or of a truth value stands in the small buffer
abbrev pub Stands : Plan → List ℕ → Type 0
Stands Nothing small = Unit
Stands Payload small = Unit
Stands (Number minus size scale) small = small ≡ bytes_of (numeral minus (chunks_value size) scale)
Stands (Boolean b) small = small ≡ bytes_of (truth b)
Stands HexDigits small = Unit
Stands Base64Letters small = Unit

-- what loading a plan gives
pub record Loaded (plan : Plan) (small : List ℕ) : Type 0 where
  pub stands : Stands plan small
  pub begins : UnitsBegin plan small
