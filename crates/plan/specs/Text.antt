-- The text of a value (01, "Text of a value"): which units it has.
use Rattle.std.specs.Prelude.{ℕ, ◌-◌, ◌/◌, ◌^◌, Bool, true, false, cond, not, List, [], ◌∷◌, length, get_or, drop, leb, eqb}
use Rattle.std.proofs.Math.Option.{Option, none, some}
use Rattle.sequences.specs.Lists.{little, units_of}
use Rattle.token.specs.Tokens.{longest, shape_of}
use Rattle.rules.specs.Rules.{lawful}
use Rattle.numeral.specs.Numeral.{numeral, truth}
use Rattle.hexadecimal.specs.Hexadecimal.{hex}
use Rattle.base64_text.specs.Base64.{base64}
use Rattle.plan.specs.declared.Kind.{Kind}
use Rattle.plan.specs.declared.Kind.TheVariants.{Unshown, Same, Signed, Unsigned, Truth, Decimal, Hex, Base64}

-- the tokens whose values have a text, and its kind (01, "Text of a value"; 07 and 88 as 02, item 2, has them, not 004, 2.3.1); `Signed`
-- carries the scale
abbrev pub kinds : List (ℕ × Kind)
kinds =
    (0x01, Signed 0)  -- SQL-SMALLINT
    ∷ (0x02, Signed 0)  -- SQL-INT
    ∷ (0x05, Signed 4)  -- SQL-MONEY
    ∷ (0x06, Unsigned)  -- SQL-BIT
    ∷ (0x07, Unsigned)  -- SQL-TINYINT
    ∷ (0x08, Signed 0)  -- SQL-BIGINT
    ∷ (0x0A, Decimal)  -- SQL-DECIMAL
    ∷ (0x0B, Decimal)  -- SQL-NUMERIC
    ∷ (0x0C, Base64)  -- SQL-BINARY
    ∷ (0x0E, Same)  -- SQL-NCHAR
    ∷ (0x0F, Base64)  -- SQL-VARBINARY
    ∷ (0x11, Same)  -- SQL-NVARCHAR
    ∷ (0x14, Signed 4)  -- SQL-SMALLMONEY
    ∷ (0x17, Base64)  -- SQL-IMAGE
    ∷ (0x18, Same)  -- SQL-NTEXT
    ∷ (0x1B, Base64)  -- SQL-UDT
    ∷ (0x84, Hex)  -- XSD-BINHEX
    ∷ (0x85, Base64)  -- XSD-BASE64
    ∷ (0x86, Truth)  -- XSD-BOOLEAN
    ∷ (0x87, Decimal)  -- XSD-DECIMAL
    ∷ (0x88, Signed 0)  -- XSD-BYTE
    ∷ (0x89, Unsigned)  -- XSD-UNSIGNEDSHORT
    ∷ (0x8A, Unsigned)  -- XSD-UNSIGNEDINT
    ∷ (0x8B, Unsigned)  -- XSD-UNSIGNEDLONG
    ∷ []

-- the kind of a code in such a list; a code that is not listed has no text
abbrev pub kind_in : ℕ → List (ℕ × Kind) → Kind
kind_in token [] = Unshown
kind_in token (row ∷ rows) = cond (eqb token row.0) row.1 (kind_in token rows)

unfoldable pub kind_of : ℕ → Kind
kind_of token = kind_in token kinds

-- the text of a signed number: of so many bytes, the upper half of the numbers is below zero
unfoldable pub signed_text : List ℕ → ℕ → List ℕ
signed_text p scale =
    cond (leb (256 ^ length p / 2) (little p)) (numeral true (256 ^ length p - little p) scale) (numeral false (little p) scale)

-- the text of a payload that obeys its rule; a decimal has precision, scale and sign before its number, and sign 0 is minus
unfoldable pub shown : Kind → List ℕ → Option (List ℕ)
shown Unshown p = none
shown Same p = some (units_of p)
shown (Signed scale) p = some (signed_text p scale)
shown Unsigned p = some (numeral false (little p) 0)
shown Truth p = some (truth (not (eqb (get_or p 0 0) 0)))
shown Decimal p = some (numeral (eqb (get_or p 2 0) 0) (little (drop 3 p)) (get_or p 1 0))
shown Hex p = some (hex p)
shown Base64 p = some (base64 p)

-- the units of the text of a token's payload, or none: 01, "Text of a value"
unfoldable pub text_of : ℕ → List ℕ → Option (List ℕ)
text_of token p = cond (leb (length p) longest) (cond (lawful (shape_of token) p) (shown (kind_of token) p) none) none

-- whether the payload itself is the text
abbrev pub is_same : Kind → Bool
is_same Unshown = false
is_same Same = true
is_same (Signed scale) = false
is_same Unsigned = false
is_same Truth = false
is_same Decimal = false
is_same Hex = false
is_same Base64 = false
