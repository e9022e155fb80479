-- Each unit of a text is below 65,536 where the payload is a list of bytes. Assumes nothing.
use Prim.Native.Nat.{ℕ, zero, suc, ◌+◌, ◌-◌, ◌*◌, ◌/◌, ◌%◌, ◌^◌, ◌<◌}
use mathlib.Core.Path.{◌≡◌, refl, subst}
use mathlib.Core.Bool.{Bool, true, false, not}
use mathlib.Core.Option.{some}
use mathlib.Core.List.{List, [], ◌∷◌}
use native.Mathlib.Omega.{arith}
use lib.Dec.{ltb, leb, eqb}
use lib.ListN.{length, get_or, drop}
use borrow.Author.Tests.{ltb-true}
use Rattle.sequences.specs.Lists.{Bytes, little, units_of}
use Rattle.sequences.specs.Arrays.{Every, none, first}
use Rattle.sequences.proofs.Tests.{cond_if}
use Rattle.sequences.proofs.Units.{bytes_first, bytes_rest}
use Rattle.sequences.proofs.Members.{every_append}
use Rattle.numeral.specs.Numeral.{last_digits, unless_zero, digits_in, digits, fraction, sign, numeral, truth}
use Rattle.hexadecimal.specs.Hexadecimal.{hex_digit, hex}
use Rattle.base64_text.specs.Base64.{letter, base64}
use Rattle.plan.specs.Text.{kind_of, signed_text, shown, text_of}
use Rattle.plan.specs.declared.Kind.{Kind}
use Rattle.plan.specs.declared.Kind.TheVariants.{Unshown, Same, Signed, Unsigned, Truth, Decimal, Hex, Base64}
use Rattle.plan.proofs.Lengths.{text_told}

-- a 16-bit unit
abbrev pub Low : ℕ → Type 0
Low u = u < 65536

low : (u : ℕ) → ltb u 65536 ≡ true → Low u
low u e = ltb-true u 65536 e

-- ---- numbers and truth values

unless_low : (n : ℕ) (text : ℕ → List ℕ) → ((q : ℕ) → Every Low (text q)) → Every Low (unless_zero n text)
unless_low zero text h = none
unless_low (suc n) text h = h (suc n)

digit_low : (n : ℕ) → Every Low ((48 + n % 10) ∷ [])
digit_low n = first (let h : 48 + n % 10 < 65536 = omega arith in h) none

digits_in_low : (steps n : ℕ) → Every Low (digits_in steps n)
unfolding digits_in
digits_in_low zero n = none
digits_in_low (suc steps) n = every_append (unless_low (n / 10) (λ q. digits_in steps q) (digits_in_low steps)) (digit_low n)

digits_low : (n : ℕ) → Every Low (digits n)
unfolding digits
digits_low n = digits_in_low (suc n) n

last_low : (k n : ℕ) → Every Low (last_digits k n)
unfolding last_digits
last_low zero n = none
last_low (suc k) n = every_append (last_low k (n / 10)) (digit_low n)

fraction_low : (scale n : ℕ) → Every Low (fraction scale n)
unfolding fraction
fraction_low zero n = none
fraction_low (suc scale) n = first (low 46 refl) (last_low (suc scale) n)

sign_low : (minus : Bool) (n : ℕ) → Every Low (sign minus n)
sign_low true n = cond_if (Every Low) (eqb n 0) [] (45 ∷ []) (λ e. none) (λ e. first (low 45 refl) none)
sign_low false n = none

numeral_low : (minus : Bool) (n scale : ℕ) → Every Low (numeral minus n scale)
unfolding numeral
numeral_low minus n scale = every_append (sign_low minus n) (every_append (digits_low (n / 10 ^ scale)) (fraction_low scale n))

signed_low : (p : List ℕ) (scale : ℕ) → Every Low (signed_text p scale)
unfolding signed_text
signed_low p scale = cond_if (Every Low) (leb (256 ^ length p / 2) (little p)) _ _ (λ e. numeral_low true (256 ^ length p - little p) scale) (λ e. numeral_low false (little p) scale)

truth_low : (b : Bool) → Every Low (truth b)
truth_low true = first (low 116 refl) (first (low 114 refl) (first (low 117 refl) (first (low 101 refl) none)))
truth_low false = first (low 102 refl) (first (low 97 refl) (first (low 108 refl) (first (low 115 refl) (first (low 101 refl) none))))

-- ---- blobs

hex_digit_low : (d : ℕ) → d < 256 → Low (hex_digit d)
unfolding hex_digit
hex_digit_low d h = cond_if Low (ltb d 10) (48 + d) (55 + d) (λ e. omega arith) (λ e. omega arith)

hex_low : (p : List ℕ) → Bytes p → Every Low (hex p)
unfolding hex
hex_low [] b = none
hex_low (a ∷ l) b =
    let h : a < 256 = bytes_first b in
    first (hex_digit_low (a / 16) (omega arith)) (first (hex_digit_low (a % 16) (omega arith)) (hex_low l (bytes_rest b)))

letter_low : (v : ℕ) → Low (letter v)
unfolding letter
letter_low v =
    cond_if Low (ltb v 26) (65 + v) _ (λ e. let h = ltb-true v 26 e in omega arith)
    (λ _. cond_if Low (ltb v 52) (71 + v) _ (λ e. let h = ltb-true v 52 e in omega arith)
    (λ _. cond_if Low (ltb v 62) (v - 4) _ (λ e. let h = ltb-true v 62 e in omega arith)
    (λ _. cond_if Low (eqb v 62) 43 47 (λ e. omega arith) (λ e. omega arith))))

base64_low : (p : List ℕ) → Every Low (base64 p)
unfolding base64
base64_low [] = none
base64_low (a ∷ []) = first (letter_low _) (first (letter_low _) (first (low 61 refl) (first (low 61 refl) none)))
base64_low (a ∷ b ∷ []) = first (letter_low _) (first (letter_low _) (first (letter_low _) (first (low 61 refl) none)))
base64_low (a ∷ b ∷ c ∷ l) = first (letter_low _) (first (letter_low _) (first (letter_low _) (first (letter_low _) (base64_low l))))

-- ---- any text

-- two bytes are a 16-bit unit
pub units_low : (l : List ℕ) → Bytes l → Every Low (units_of l)
units_low [] h = none
units_low (a ∷ []) h = none
units_low (a ∷ b ∷ l) h =
    let x : a < 256 = bytes_first h in
    let y : b < 256 = bytes_first (bytes_rest h) in
    first (let z : a + 256 * b < 65536 = omega arith in z) (units_low l (bytes_rest (bytes_rest h)))

same_units : {l m : List ℕ} → some l ≡ some m → Every Low l → Every Low m
same_units {l} {m} e h = let i : l ≡ m = cc in subst (Every Low) i h

shown_low : (k : Kind) (p units : List ℕ) → Bytes p → shown k p ≡ some units → Every Low units
unfolding shown
shown_low Unshown p units b e = absurd (let z : ◌≡◌ {A = ℕ} 0 1 = cc in let q : ⊥ = omega arith in q)
shown_low Same p units b e = same_units e (units_low p b)
shown_low (Signed scale) p units b e = same_units e (signed_low p scale)
shown_low Unsigned p units b e = same_units e (numeral_low false (little p) 0)
shown_low Truth p units b e = same_units e (truth_low (not (eqb (get_or p 0 0) 0)))
shown_low Decimal p units b e = same_units e (numeral_low (eqb (get_or p 2 0) 0) (little (drop 3 p)) (get_or p 1 0))
shown_low Hex p units b e = same_units e (hex_low p b)
shown_low Base64 p units b e = same_units e (base64_low p)

pub text_low : (token : ℕ) (p units : List ℕ) → Bytes p → text_of token p ≡ some units → Every Low units
text_low token p units b e = shown_low (kind_of token) p units b (text_told token p units e).by_kind
