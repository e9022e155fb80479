-- The sign of a one-byte number (02, item 2): the text of each payload of SQL-TINYINT and of XSD-BYTE. Assumes nothing.
use Prim.Native.Nat.{ℕ, ◌-◌}
use mathlib.Core.Path.{◌≡◌, refl}
use mathlib.Core.Bool.{true, false, cond}
use mathlib.Core.Option.{some}
use mathlib.Core.List.{[], ◌∷◌}
use lib.Dec.{leb}
use native.Mathlib.Numerals.{unary_clauses}
use Rattle.token.specs.Tokens.{shape_of}
use Rattle.rules.specs.Rules.{lawful}
use Rattle.numeral.specs.Numeral.{numeral}
use Rattle.plan.specs.Text.{kind_of, signed_text, shown, text_of}

-- 0 to 255
pub tinyint_text : (b : ℕ) → text_of 0x07 (b ∷ []) ≡ some (numeral false b 0)
unfolding shape_of lawful kind_of shown text_of
tinyint_text b = simp unary_clauses refl

-- -128 to 127: from 128 on below zero
pub byte_text : (b : ℕ) → text_of 0x88 (b ∷ []) ≡ some (cond (leb 128 b) (numeral true (256 - b) 0) (numeral false b 0))
unfolding shape_of lawful kind_of signed_text shown text_of
byte_text b = simp unary_clauses refl
