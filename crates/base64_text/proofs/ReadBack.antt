-- Base64 text is read back to its bytes, so equal texts mean equal bytes. Assumes nothing.
use Prim.Native.Nat.{ℕ, ◌+◌, ◌-◌, ◌*◌, ◌/◌, ◌%◌, ◌<◌}
use mathlib.Core.Path.{◌≡◌, refl, sym, ◌∙◌, ap}
use mathlib.Core.Bool.{cond}
use mathlib.Core.List.{List, [], ◌∷◌, map}
use native.Mathlib.Omega.{arith}
use lib.Dec.{ltb, eqb}
use borrow.Author.Tests.{lt-ltb}
use Rattle.sequences.specs.Lists.{Bytes}
use Rattle.sequences.proofs.Table.{counted, at_each}
use Rattle.sequences.proofs.Tests.{tests}
use Rattle.sequences.proofs.Units.{bytes_first, bytes_rest}
use Rattle.base64_text.specs.Base64.{letter, base64}
use Rattle.base64_text.specs.Letters.{Alphabet}
use Rattle.base64_text.proofs.Base64.{alphabet_is}

-- ---- Base64

-- the number of a letter; that of `=` is not below 64
unfoldable pub value : ℕ → ℕ
value u = cond (eqb u 43) 62 (cond (eqb u 47) 63 (cond (ltb u 62) (u + 4) (cond (ltb u 91) (u - 65) (u - 71))))

-- the bytes of four numbers of letters, then others; at the first number that is not below 64 the bytes end
abbrev pub three : ℕ → ℕ → ℕ → ℕ → List ℕ → List ℕ
three w x y z l =
    (w * 4 + x / 16) ∷ cond (ltb y 64) ((x % 16 * 16 + y / 4) ∷ cond (ltb z 64) ((y % 4 * 64 + z) ∷ l) []) []

-- the bytes of a Base64 text
unfoldable pub base64_bytes : List ℕ → List ℕ
base64_bytes [] = []
base64_bytes (w ∷ []) = []
base64_bytes (w ∷ x ∷ []) = []
base64_bytes (w ∷ x ∷ y ∷ []) = []
base64_bytes (w ∷ x ∷ y ∷ z ∷ us) = three (value w) (value x) (value y) (value z) (base64_bytes us)

-- the letters of 0 to 63
abbrev letters : List ℕ
letters = map letter (counted 64 0)

letters_are : Alphabet letters
unfolding letter
letters_are = alphabet_is letters refl

letters_read : map value letters ≡ map (λ (x : ℕ). cond (ltb x 64) x 4) (counted 64 0)
unfolding value letter
letters_read = refl

letter_value : (v : ℕ) → v < 64 → value (letter v) ≡ v
unfolding value Alphabet
letter_value v h =
    ap value (sym (letters_are v h)) ∙ at_each value (λ (x : ℕ). cond (ltb x 64) x 4) letters 64 letters_read v h refl ∙ simp (tests, h)

pad_value : value 61 ≡ 65
unfolding value
pad_value = refl

pub base64_reads_back : (p : List ℕ) → Bytes p → base64_bytes (base64 p) ≡ p
unfolding base64 base64_bytes
base64_reads_back [] h = refl
base64_reads_back (a ∷ []) h =
    let fa : a < 256 = bytes_first h in
    let w = letter_value (a / 4) (omega arith) in
    let x = letter_value (a % 4 * 16) (omega arith) in
    let e : a / 4 * 4 + a % 4 * 16 / 16 ≡ a = omega arith in
    rw (w, x, pad_value, e)
base64_reads_back (a ∷ b ∷ []) h =
    let fa : a < 256 = bytes_first h in
    let fb : b < 256 = bytes_first (bytes_rest h) in
    let w = letter_value (a / 4) (omega arith) in
    let x = letter_value (a % 4 * 16 + b / 16) (omega arith) in
    let k : b % 16 * 4 < 64 = omega arith in
    let y = letter_value (b % 16 * 4) k in
    let e : a / 4 * 4 + (a % 4 * 16 + b / 16) / 16 ≡ a = omega arith in
    let f : (a % 4 * 16 + b / 16) % 16 * 16 + b % 16 * 4 / 4 ≡ b = omega arith in
    rw (w, x, y, pad_value, lt-ltb _ _ k, e, f)
base64_reads_back (a ∷ b ∷ c ∷ l) h =
    let fa : a < 256 = bytes_first h in
    let fb : b < 256 = bytes_first (bytes_rest h) in
    let fc : c < 256 = bytes_first (bytes_rest (bytes_rest h)) in
    let w = letter_value (a / 4) (omega arith) in
    let x = letter_value (a % 4 * 16 + b / 16) (omega arith) in
    let k : b % 16 * 4 + c / 64 < 64 = omega arith in
    let y = letter_value (b % 16 * 4 + c / 64) k in
    let m : c % 64 < 64 = omega arith in
    let z = letter_value (c % 64) m in
    let e : a / 4 * 4 + (a % 4 * 16 + b / 16) / 16 ≡ a = omega arith in
    let f : (a % 4 * 16 + b / 16) % 16 * 16 + (b % 16 * 4 + c / 64) / 4 ≡ b = omega arith in
    let g : (b % 16 * 4 + c / 64) % 4 * 64 + c % 64 ≡ c = omega arith in
    rw (w, x, y, z, lt-ltb _ _ k, lt-ltb _ _ m, e, f, g, base64_reads_back l (bytes_rest (bytes_rest (bytes_rest h))))

-- equal texts come from equal bytes
pub base64_injective : {p q : List ℕ} → Bytes p → Bytes q → base64 p ≡ base64 q → p ≡ q
base64_injective {p} {q} a b e = sym (base64_reads_back p a) ∙ ap base64_bytes e ∙ base64_reads_back q b
