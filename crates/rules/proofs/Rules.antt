-- Lengths that the rules give, and little-endian numbers of two and three bytes. Assumes nothing.
use Prim.Native.Nat.{ℕ, suc, ◌+◌, ◌-◌, ◌*◌, ◌≤◌, ◌<◌}
use mathlib.Core.Path.{◌≡◌, refl, ◌∙◌}
use mathlib.Core.Bool.{Bool, true, false, ◌&&◌}
use mathlib.Core.List.{List, [], ◌∷◌}
use native.Mathlib.Decide.{dec_lt}
use native.Mathlib.Omega.{arith}
use lib.Dec.{leb, eqb}
use lib.ListN.{length, get_or}
use lib.Seq.{drop-cons}
use borrow.Author.Tests.{eqb-true}
use Rattle.sequences.specs.Lists.{part, little}
use Rattle.sequences.proofs.Tests.{tests, and_left, and_right}
use Rattle.rules.specs.Rules.{decimal_size, time_bytes, zone_lawful, time_lawful, zoned_lawful}

-- ---- little-endian numbers

pub little_two : (p : List ℕ) (at : ℕ) → at + 2 ≤ length p → little (part p at 2) ≡ get_or p at 0 + 256 * get_or p (at + 1) 0
little_two p at h =
    let e : at + 1 ≡ suc at = omega arith in
    let a : at < length p = omega arith in
    let b : suc at < length p = omega arith in
    rw (e, drop-cons p at 0 a, drop-cons p (suc at) 0 b) (omega arith)

pub little_three : (p : List ℕ) (at : ℕ) → at + 3 ≤ length p
    → little (part p at 3) ≡ get_or p at 0 + 256 * (get_or p (at + 1) 0 + 256 * get_or p (at + 2) 0)
little_three p at h =
    let e : at + 1 ≡ suc at = omega arith in
    let f : at + 2 ≡ suc (suc at) = omega arith in
    let a : at < length p = omega arith in
    let b : suc at < length p = omega arith in
    let d : suc (suc at) < length p = omega arith in
    rw (e, f, drop-cons p at 0 a, drop-cons p (suc at) 0 b, drop-cons p (suc (suc at)) 0 d) (omega arith)

-- three bytes are all of three
pub whole_three : (p : List ℕ) → length p ≡ 3 → part p 0 3 ≡ p
whole_three [] e = refl
whole_three (a ∷ []) e = refl
whole_three (a ∷ b ∷ []) e = refl
whole_three (a ∷ b ∷ c ∷ []) e = refl
whole_three (a ∷ b ∷ c ∷ d ∷ l) e = absurd (let q : ⊥ = omega arith in q)

-- ---- decimals

pub decimal_long : (n : ℕ) → decimal_size n ≡ true → 7 ≤ n
unfolding decimal_size
decimal_long n e = go (dec_lt n 7)
  where
    go : Dec (n < 7) → 7 ≤ n
    go (yes h) =
        let a : n ≡ 7 → ⊥ = λ q. omega arith in
        let b : n ≡ 11 → ⊥ = λ q. omega arith in
        let c : n ≡ 15 → ⊥ = λ q. omega arith in
        let d : n ≡ 19 → ⊥ = λ q. omega arith in
        let f : false ≡ true = simp (tests, a, b, c, d) at e in
        absurd (let z : ◌≡◌ {A = ℕ} 0 1 = cc in let q : ⊥ = omega arith in q)
    go (no h) = omega arith

-- ---- times

pub time_bytes_few : (precision : ℕ) → (3 ≤ time_bytes precision) × (time_bytes precision ≤ 5)
unfolding time_bytes
time_bytes_few precision = go (dec_lt precision 3) (dec_lt precision 5)
  where
    go : Dec (precision < 3) → Dec (precision < 5) → (3 ≤ time_bytes precision) × (time_bytes precision ≤ 5)
    go (yes a) b = simp (tests, a) (omega arith, omega arith)
    go (no a) (yes b) = let k : 3 ≤ precision = omega arith in simp (tests, k, b) (omega arith, omega arith)
    go (no a) (no b) =
        let k : 3 ≤ precision = omega arith in
        let l : 5 ≤ precision = omega arith in
        simp (tests, k, l) (omega arith, omega arith)

module _ (p : List ℕ) (more first last : ℕ) where
  pub time_empty : length p ≡ 0 → false ≡ time_lawful more first last p
  unfolding time_lawful time_bytes
  time_empty e = go p e
    where
      go : (p : List ℕ) → length p ≡ 0 → false ≡ time_lawful more first last p
      go [] e = let n : 0 ≡ 1 + 3 + more → ⊥ = λ q. omega arith in simp (tests, n)
      go (x ∷ p) e = absurd (let q : ⊥ = omega arith in q)

  pub time_long : time_lawful more first last p ≡ true → 4 + more ≤ length p
  unfolding time_lawful
  time_long e =
      let s = and_right (leb (get_or p 0 0) 7) _ (and_left (leb (get_or p 0 0) 7 && eqb (length p) (1 + time_bytes (get_or p 0 0) + more)) _ e) in
      let l : length p ≡ 1 + time_bytes (get_or p 0 0) + more = eqb-true _ _ s in
      let f = time_bytes_few (get_or p 0 0) in
      omega arith

module _ (p : List ℕ) (first last : ℕ) where
  pub zoned_time : time_lawful 5 first last p ≡ false → false ≡ zoned_lawful first last p
  unfolding zoned_lawful
  zoned_time e = simp e

  pub zoned_zone : time_lawful 5 first last p ≡ true → {t : Bool} → t ≡ zone_lawful (part p (length p - 2) 2) → t ≡ zoned_lawful first last p
  unfolding zoned_lawful
  zoned_zone e g = g ∙ simp e
