-- The text of a blob in hexadecimal, as 16-bit units: upper case, two digits for each byte (004, 2.3.17).
use Rattle.std.specs.Prelude.{ℕ, ◌+◌, ◌/◌, ◌%◌, cond, List, [], ◌∷◌, ltb}

-- the digit of a number below 16: `0` to `9`, then `A` to `F` in upper case (004, 2.3.17)
unfoldable pub hex_digit : ℕ → ℕ
hex_digit d = cond (ltb d 10) (48 + d) (55 + d)

-- two digits for each byte, the high half of the byte first (004, 2.3.17)
unfoldable pub hex : List ℕ → List ℕ
hex [] = []
hex (a ∷ l) = hex_digit (a / 16) ∷ hex_digit (a % 16) ∷ hex l
