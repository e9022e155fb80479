-- The text of a blob in Base64 with padding, as 16-bit units (004, 2.3.16; RFC 3548, section 3).
use Rattle.std.specs.Prelude.{ℕ, ◌+◌, ◌-◌, ◌*◌, ◌/◌, ◌%◌, cond, List, [], ◌∷◌, ltb, eqb}

-- the letter of a number below 64: `A` to `Z`, `a` to `z`, `0` to `9`, `+`, `/` (RFC 3548, section 3, table 1)
unfoldable pub letter : ℕ → ℕ
letter v = cond (ltb v 26) (65 + v) (cond (ltb v 52) (71 + v) (cond (ltb v 62) (v - 4) (cond (eqb v 62) 43 47)))

-- four letters for three bytes, six bits each; `=` (61) fills the last four letters (004, 2.3.16; RFC 3548, section 3)
unfoldable pub base64 : List ℕ → List ℕ
base64 [] = []
base64 (a ∷ []) = letter (a / 4) ∷ letter (a % 4 * 16) ∷ 61 ∷ 61 ∷ []
base64 (a ∷ b ∷ []) = letter (a / 4) ∷ letter (a % 4 * 16 + b / 16) ∷ letter (b % 16 * 4) ∷ 61 ∷ []
base64 (a ∷ b ∷ c ∷ l) = letter (a / 4) ∷ letter (a % 4 * 16 + b / 16) ∷ letter (b % 16 * 4 + c / 64) ∷ letter (c % 64) ∷ base64 l
