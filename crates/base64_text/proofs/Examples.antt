-- RFC 3548's examples of Base64 text. Assumes nothing.
use mathlib.Core.Path.{◌≡◌, refl}
use mathlib.Core.List.{[], ◌∷◌}
use Rattle.base64_text.specs.Base64.{letter, base64}

-- RFC 3548, section 7. 14 FB 9C 03 D9 7E: "FPucA9l+"
six_bytes : base64 (0x14 ∷ 0xFB ∷ 0x9C ∷ 0x03 ∷ 0xD9 ∷ 0x7E ∷ []) ≡ 70 ∷ 80 ∷ 117 ∷ 99 ∷ 65 ∷ 57 ∷ 108 ∷ 43 ∷ []
unfolding base64 letter
six_bytes = refl

-- 14 FB 9C 03 D9: "FPucA9k="
five_bytes : base64 (0x14 ∷ 0xFB ∷ 0x9C ∷ 0x03 ∷ 0xD9 ∷ []) ≡ 70 ∷ 80 ∷ 117 ∷ 99 ∷ 65 ∷ 57 ∷ 107 ∷ 61 ∷ []
unfolding base64 letter
five_bytes = refl

-- 14 FB 9C 03: "FPucAw=="
four_bytes : base64 (0x14 ∷ 0xFB ∷ 0x9C ∷ 0x03 ∷ []) ≡ 70 ∷ 80 ∷ 117 ∷ 99 ∷ 65 ∷ 119 ∷ 61 ∷ 61 ∷ []
unfolding base64 letter
four_bytes = refl
