-- Laws of hexadecimal text. Assumes nothing.
use Prim.Native.Nat.{ℕ, zero, suc, ◌+◌, ◌*◌, ◌/◌, ◌%◌, ◌≤◌, ◌<◌}
use mathlib.Core.Path.{◌≡◌, refl, sym, ◌∙◌, ap}
use mathlib.Core.Bool.{cond}
use mathlib.Core.List.{List, [], ◌∷◌, ◌++◌}
use native.Mathlib.Numerals.{add-one}
use native.Mathlib.Omega.{arith}
use lib.ListN.{length, get_or, take}
use lib.Seq.{sets, take-suc, take_all, length-take-le}
use lib.Dec.{ltb, eqb}
use borrow.Author.Tests.{ltb-true, ltb-false}
use Rattle.sequences.specs.Lists.{overlay, bytes_of}
use Rattle.sequences.proofs.Tests.{tests, cond_if}
use Rattle.hexadecimal.specs.Hexadecimal.{hex_digit, hex}
use Rattle.sequences.proofs.Store.{text_next, text_front}

pub length_hex : (p : List ℕ) → length (hex p) ≡ 2 * length p
unfolding hex
length_hex [] = refl
length_hex (a ∷ l) = let i = length_hex l in omega arith

pub hex_append : (p q : List ℕ) → hex (p ++ q) ≡ hex p ++ hex q
unfolding hex
hex_append [] q = refl
hex_append (a ∷ p) q = ap (λ (l : List ℕ). hex_digit (a / 16) ∷ hex_digit (a % 16) ∷ l) (hex_append p q)

-- unit k: the high half of byte k / 2 where k is even, and the low half where it is odd
pub hex_at : (p : List ℕ) (k : ℕ) → k < 2 * length p
    → get_or (hex p) k 0 ≡ hex_digit (cond (eqb (k % 2) 0) (get_or p (k / 2) 0 / 16) (get_or p (k / 2) 0 % 16))
unfolding hex
hex_at [] k h = absurd (let q : ⊥ = omega arith in q)
hex_at (a ∷ l) zero h = refl
hex_at (a ∷ l) (suc zero) h = refl
hex_at (a ∷ l) (suc (suc k)) h =
    let e : suc (suc k) / 2 ≡ suc (k / 2) = omega arith in
    let f : suc (suc k) % 2 ≡ k % 2 = omega arith in
    rw (e, f) (hex_at l k (let q : k < 2 * length l = omega arith in q))

pub hex_even : (p : List ℕ) (k : ℕ) → k < 2 * length p → k % 2 ≡ 0 → hex_digit (get_or p (k / 2) 0 / 16) ≡ get_or (hex p) k 0
hex_even p k h e = sym (hex_at p k h ∙ simp e)

pub hex_odd : (p : List ℕ) (k : ℕ) → k < 2 * length p → (k % 2 ≡ 0 → ⊥) → hex_digit (get_or p (k / 2) 0 % 16) ≡ get_or (hex p) k 0
hex_odd p k h e = sym (hex_at p k h ∙ simp (tests, e))

-- a digit without a branch
pub hex_digit_is : (d : ℕ) → d < 16 → 48 + d + d / 10 * 7 ≡ hex_digit d
unfolding hex_digit
hex_digit_is d h =
    cond_if (λ (x : ℕ). 48 + d + d / 10 * 7 ≡ x) (ltb d 10) _ _
    (λ e. let l = ltb-true d 10 e in omega arith)
    (λ e. let l = ltb-false d 10 e in omega arith)

-- the text of one byte
pub text_byte : (b : ℕ) {w x : ℕ} → w ≡ hex_digit (b / 16) → x ≡ hex_digit (b % 16) → w ∷ x ∷ [] ≡ hex (b ∷ [])
unfolding hex
text_byte b e f = cc

-- the text of no byte, stored at the front
pub hex_none : (l : List ℕ) → l ≡ sets l 0 (bytes_of (hex []))
unfolding hex
hex_none l = refl

-- the text of a further byte, stored behind that of the bytes before it
pub hex_next : (p l : List ℕ) (i : ℕ) {mid after : List ℕ} → i < length p → mid ≡ sets l 0 (bytes_of (hex (take i p)))
    → after ≡ sets mid (4 * i) (bytes_of (hex (get_or p i 0 ∷ []))) → after ≡ sets l 0 (bytes_of (hex (take (i + 1) p)))
hex_next p l i h e f =
    let n : length (take i p) ≡ i = length-take-le i p (omega arith) in
    let z : 4 * i ≡ 2 * length (hex (take i p)) = let m = length_hex (take i p) in omega arith in
    f ∙ rw (e, text_next (hex (take i p)) (hex (get_or p i 0 ∷ [])) l (4 * i) z, ← hex_append, add-one, take-suc p i 0 h)

-- the text of all bytes, stored at the front
pub hex_all : (p l : List ℕ) (i : ℕ) {after : List ℕ} → 4 * length p ≤ length l → length p ≤ i
    → after ≡ sets l 0 (bytes_of (hex (take i p))) → after ≡ overlay (bytes_of (hex p)) l
hex_all p l i h k e =
    e ∙ rw (take_all i p k) (text_front (hex p) l (let n = length_hex p in omega arith))
