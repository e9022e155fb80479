-- Serves the code. What the code finds out about a value before it writes: a plan, from which the text is written whole or read
-- unit by unit.
use Rattle.std.specs.Prelude.{ℕ, ◌*◌, ◌%◌, ◌^◌, ◌≤◌, ◌<◌, ◌≡◌, Bool, true, false, List, [], length}
use Rattle.std.proofs.Math.Option.{Option, none, some}
use Rattle.sequences.specs.Lists.{units_of}
use Rattle.token.specs.Tokens.{longest}
use Rattle.rules.specs.Rules.{decimal_lawful}
use Rattle.numeral.specs.Numeral.{numeral, truth}
use Rattle.chunks.specs.Chunks.{word_size, chunks_value, Chunked}
use Rattle.hexadecimal.specs.Hexadecimal.{hex}
use Rattle.base64_text.specs.Base64.{base64}
use Rattle.plan.specs.declared.Kind.{Kind}
use Rattle.plan.specs.declared.Kind.TheVariants.{Unshown, Same, Signed, Unsigned, Truth, Decimal, Hex, Base64}
use Rattle.plan.specs.declared.Plan.{Plan}
use Rattle.plan.specs.declared.Plan.TheVariants.{Nothing, Payload, Number, Boolean, HexDigits, Base64Letters}

-- what the rule of a token says of a payload of its kind: sizes and scales that the code relies on
abbrev pub Ruled : Kind → List ℕ → Type 0
Ruled Unshown p = Unit
Ruled Same p = length p % 2 ≡ 0
Ruled (Signed scale) p = (word_size (length p) ≡ true) × (scale ≤ 38)
Ruled Unsigned p = word_size (length p) ≡ true
Ruled Truth p = length p ≡ 1
Ruled Decimal p = decimal_lawful p ≡ true
Ruled Hex p = Unit
Ruled Base64 p = Unit

-- the units that a plan stands for
abbrev pub units_by : Plan → List ℕ → List ℕ
units_by Nothing p = []
units_by Payload p = units_of p
units_by (Number minus size scale) p = numeral minus (chunks_value size) scale
units_by (Boolean b) p = truth b
units_by HexDigits p = hex p
units_by Base64Letters p = base64 p

-- the same as a text, or none
abbrev pub text_by : Plan → List ℕ → Option (List ℕ)
text_by Nothing p = none
text_by Payload p = some (units_by Payload p)
text_by (Number minus size scale) p = some (units_by (Number minus size scale) p)
text_by (Boolean b) p = some (units_by (Boolean b) p)
text_by HexDigits p = some (units_by HexDigits p)
text_by Base64Letters p = some (units_by Base64Letters p)

-- whether the payload itself is the text
abbrev pub OwnBy : Plan → Bool → Type 0
OwnBy Nothing own = Unit
OwnBy Payload own = own ≡ true
OwnBy (Number minus size scale) own = own ≡ false
OwnBy (Boolean b) own = own ≡ false
OwnBy HexDigits own = own ≡ false
OwnBy Base64Letters own = own ≡ false

-- a number that can be written in 41 units
abbrev pub NumberFits : Plan → Type 0
NumberFits Nothing = Unit
NumberFits Payload = Unit
NumberFits (Number minus size scale) = Chunked size × (scale ≤ 38) × (chunks_value size < 10 ^ 39)
NumberFits (Boolean b) = Unit
NumberFits HexDigits = Unit
NumberFits Base64Letters = Unit

-- a payload that is whole units, or not too long
abbrev pub PayloadFits : Plan → List ℕ → Type 0
PayloadFits Nothing p = Unit
PayloadFits Payload p = length p ≡ 2 * length (units_of p)
PayloadFits (Number minus size scale) p = Unit
PayloadFits (Boolean b) p = Unit
PayloadFits HexDigits p = length p ≤ longest
PayloadFits Base64Letters p = length p ≤ longest

-- what a plan says of a text, of whether the payload itself is it (`own`), and of a payload
pub record Means (text : Option (List ℕ)) (own : Bool) (p : List ℕ) (plan : Plan) : Type 0 where
  pub text_is : text ≡ text_by plan p
  pub own_is : OwnBy plan own
  pub number_fits : NumberFits plan
  pub payload_fits : PayloadFits plan p
