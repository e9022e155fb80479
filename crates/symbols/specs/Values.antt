-- Serves the code. The numbers of a value, and how its text is made.
use Rattle.std.specs.Prelude.{ℕ, List, ◌∷◌, map}
use Rattle.std.proofs.Math.Option.{Option, none, some}
use Rattle.plan.specs.declared.Plan.{Plan}
use Rattle.plan.specs.declared.Plan.TheVariants.{Nothing, Payload, Number, Boolean, HexDigits, Base64Letters}
use Rattle.meaning.specs.Codes.{mark, token_kind, byte_kind}

-- ---- values

-- the units of its text, or a mark for the token and one for each byte
abbrev pub value_codes : ℕ → List ℕ → Option (List ℕ) → List ℕ
value_codes token payload none = mark token_kind token ∷ map (mark byte_kind) payload
value_codes token payload (some units) = units

-- a text that is made in a small buffer
abbrev pub MadeSmall : Plan → Type 0
MadeSmall Nothing = ⊥
MadeSmall Payload = ⊥
MadeSmall (Number minus size scale) = Unit
MadeSmall (Boolean b) = Unit
MadeSmall HexDigits = ⊥
MadeSmall Base64Letters = ⊥

-- a text that is made of a blob
abbrev pub MadeOfBlob : Plan → Type 0
MadeOfBlob Nothing = ⊥
MadeOfBlob Payload = ⊥
MadeOfBlob (Number minus size scale) = ⊥
MadeOfBlob (Boolean b) = ⊥
MadeOfBlob HexDigits = Unit
MadeOfBlob Base64Letters = Unit
