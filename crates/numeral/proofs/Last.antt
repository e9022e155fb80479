-- The last digits of a number, and the point before them. Assumes nothing.
use Prim.Native.Nat.{ℕ, zero, suc, ◌+◌, ◌*◌, ◌/◌, ◌%◌, ◌^◌, ◌≤◌, ◌<◌}
use mathlib.Core.Path.{◌≡◌, refl, sym, ◌∙◌, ap}
use mathlib.Core.List.{List, [], ◌∷◌, ◌++◌}
use native.Mathlib.Numerals.{add-one}
use native.Mathlib.Nat.{pow-succ', div-div-eq-div-mul, div-one, mul_comm}
use native.Mathlib.Omega.{arith}
use lib.ListN.{length}
use Rattle.sequences.specs.Lists.{bytes_of}
use Rattle.numeral.specs.Numeral.{last_digits, fraction}
use Rattle.numeral.proofs.Digits.{length_last_digits, last_more}
use Rattle.numeral.proofs.Stores.{before_length}

-- the last i digits of n are put before `old`, and v is n without them
pub record LastSoFar (n v i : ℕ) (old small : List ℕ) : Type 0 where
  pub put : small ≡ bytes_of (last_digits i n) ++ old
  pub left : v ≡ n / 10 ^ i

pub last_start : (n : ℕ) (old : List ℕ) → LastSoFar n n 0 old old
unfolding last_digits
last_start n old = record { put = refl; left = sym (div-one n) }

-- how long the small buffer's text is then
pub last_long : (i n : ℕ) (old : List ℕ) {small : List ℕ} → small ≡ bytes_of (last_digits i n) ++ old → length small ≡ 2 * i + length old
last_long i n old e = ap length e ∙ before_length (last_digits i n) old ∙ ap (λ (x : ℕ). 2 * x + length old) (length_last_digits i n)

module _ {n v i : ℕ} {old small : List ℕ} (f : LastSoFar n v i old small) where
  pub last_room : {k : ℕ} → i < k → length old + 2 * k ≤ 82 → length small + 2 ≤ 82
  last_room h r = let e = last_long i n old f.put in omega arith

  pub last_next : {after : List ℕ} (u w : ℕ) → after ≡ bytes_of (u ∷ []) ++ small → u ≡ 48 + v % 10 → w ≡ v / 10 → LastSoFar n w (i + 1) old after
  last_next u w d e x =
      let t : 48 + v % 10 ≡ 48 + n / 10 ^ i % 10 = ap (λ (q : ℕ). 48 + q % 10) f.left in
      let p : 10 ^ i * 10 ≡ 10 ^ suc i = mul_comm (10 ^ i) 10 ∙ sym (pow-succ' 10 i) in
      record {
        put = rw (add-one, last_more) (rw (e, t, f.put) at d);
        left = x ∙ ap (λ (q : ℕ). q / 10) f.left ∙ div-div-eq-div-mul n (10 ^ i) 10 ∙ rw add-one (ap (λ (q : ℕ). n / q) p);
      }

  pub last_end : {k : ℕ} → k ≤ i → i ≤ k → (small ≡ bytes_of (last_digits k n) ++ old) × (v ≡ n / 10 ^ k)
  last_end {k} h l = let e : i ≡ k = omega arith in (rw e at f.put, rw e at f.left)

-- ---- the point

module _ (k n : ℕ) (old : List ℕ) {small : List ℕ} (e : small ≡ bytes_of (last_digits k n) ++ old) where
  pub point_room : length old + 2 * (k + 1) ≤ 82 → length small + 2 ≤ 82
  point_room r = let l = last_long k n old e in omega arith

  pub no_point : k ≡ 0 → small ≡ bytes_of (fraction k n) ++ old
  unfolding fraction last_digits
  no_point z = rw z (rw z at e)

  pub with_point : {after : List ℕ} → (k ≡ 0 → ⊥) → after ≡ bytes_of (46 ∷ []) ++ small → after ≡ bytes_of (fraction k n) ++ old
  unfolding fraction
  with_point {after} h d = go k refl
    where
      go : (m : ℕ) → k ≡ m → after ≡ bytes_of (fraction m n) ++ old
      go zero z = absurd (h z)
      go (suc m) z = let q : small ≡ bytes_of (last_digits (suc m) n) ++ old = rw z at e in rw q at d
