-- Hexadecimal text is read back to its bytes, so equal texts mean equal bytes. Assumes nothing.
use Prim.Native.Nat.{ℕ, ◌+◌, ◌-◌, ◌*◌, ◌/◌, ◌%◌, ◌≤◌, ◌<◌}
use mathlib.Core.Path.{◌≡◌, refl, sym, ◌∙◌, ap}
use mathlib.Core.Bool.{cond}
use mathlib.Core.List.{List, [], ◌∷◌}
use native.Mathlib.Omega.{arith}
use lib.Dec.{ltb}
use borrow.Author.Tests.{ltb-true, ltb-false}
use Rattle.sequences.specs.Lists.{Bytes}
use Rattle.sequences.proofs.Tests.{tests, cond_if}
use Rattle.sequences.proofs.Units.{bytes_first, bytes_rest}
use Rattle.hexadecimal.specs.Hexadecimal.{hex_digit, hex}

-- ---- hexadecimal

-- the number of a digit
abbrev pub hex_value : ℕ → ℕ
hex_value u = cond (ltb u 58) (u - 48) (u - 55)

-- the bytes of a hexadecimal text
unfoldable pub hex_bytes : List ℕ → List ℕ
hex_bytes [] = []
hex_bytes (w ∷ []) = []
hex_bytes (w ∷ x ∷ us) = (hex_value w * 16 + hex_value x) ∷ hex_bytes us

hex_value_lem : (d : ℕ) → d < 16 → hex_value (hex_digit d) ≡ d
unfolding hex_digit
hex_value_lem d h =
    cond_if (λ (x : ℕ). hex_value x ≡ d) (ltb d 10) (48 + d) (55 + d)
    (λ e. let l = ltb-true d 10 e in let k : 48 + d < 58 = omega arith in simp (tests, k) (omega arith))
    (λ e. let l = ltb-false d 10 e in let k : 58 ≤ 55 + d = omega arith in simp (tests, k) (omega arith))

pub hex_reads_back : (p : List ℕ) → Bytes p → hex_bytes (hex p) ≡ p
unfolding hex hex_bytes
hex_reads_back [] b = refl
hex_reads_back (a ∷ l) b =
    let f : a < 256 = bytes_first b in
    let hi : hex_value (hex_digit (a / 16)) ≡ a / 16 = hex_value_lem (a / 16) (omega arith) in
    let lo : hex_value (hex_digit (a % 16)) ≡ a % 16 = hex_value_lem (a % 16) (omega arith) in
    let e : a / 16 * 16 + a % 16 ≡ a = omega arith in
    rw (hi, lo, e, hex_reads_back l (bytes_rest b))

-- equal texts come from equal bytes
pub hex_injective : {p q : List ℕ} → Bytes p → Bytes q → hex p ≡ hex q → p ≡ q
hex_injective {p} {q} a b e = sym (hex_reads_back p a) ∙ ap hex_bytes e ∙ hex_reads_back q b
