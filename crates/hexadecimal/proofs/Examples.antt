-- 01's example of hexadecimal text. Assumes nothing.
use mathlib.Core.Path.{◌≡◌, refl}
use mathlib.Core.List.{[], ◌∷◌}
use Rattle.hexadecimal.specs.Hexadecimal.{hex_digit, hex}

-- 00 9A FF: "009AFF"
hex_example : hex (0x00 ∷ 0x9A ∷ 0xFF ∷ []) ≡ 48 ∷ 48 ∷ 57 ∷ 65 ∷ 70 ∷ 70 ∷ []
unfolding hex hex_digit
hex_example = refl
