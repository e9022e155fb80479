-- The years' sum in closed form, and the year of a day by two cycles. Assumes nothing.
use Prim.Native.Nat.{ℕ, zero, suc, ◌+◌, ◌*◌, ◌/◌, ◌%◌, ◌≤◌, ◌<◌}
use mathlib.Core.Path.{◌≡◌, refl, ap}
use mathlib.Core.Bool.{Bool, true, false, cond, not, ◌&&◌, ◌||◌}
use native.Mathlib.Omega.{arith}
use native.Mathlib.Decide.{dec_lt}
use lib.Dec.{eqb}
use borrow.Author.Tests.{eqb-true, eqb-false, eq-eqb}
use Rattle.sequences.proofs.Same.{never}
use Rattle.calendar.specs.Calendar.{leap, year_days, through_year}
use Rattle.calendar.specs.Dates.{century_of, in_century, year_of, in_year}

-- ---- years: the sum in closed form

-- 1 where a test passes
abbrev one_if : Bool → ℕ
one_if b = cond b 1 0

module _ (y : ℕ) where
  by_4 : (b : Bool) → eqb (suc y % 4) 0 ≡ b → suc y / 4 ≡ y / 4 + one_if b
  by_4 true e = omega (arith, eqb-true (suc y % 4) 0 e)
  by_4 false e = omega (arith, eqb-false (suc y % 4) 0 e)

  by_100 : (b : Bool) → eqb (suc y % 100) 0 ≡ b → suc y / 100 ≡ y / 100 + one_if b
  by_100 true e = omega (arith, eqb-true (suc y % 100) 0 e)
  by_100 false e = omega (arith, eqb-false (suc y % 100) 0 e)

  by_400 : (b : Bool) → eqb (suc y % 400) 0 ≡ b → suc y / 400 ≡ y / 400 + one_if b
  by_400 true e = omega (arith, eqb-true (suc y % 400) 0 e)
  by_400 false e = omega (arith, eqb-false (suc y % 400) 0 e)

-- what is divided by 100 is divided by 4, and what is divided by 400 by 100
fours : (n : ℕ) → eqb (n % 100) 0 ≡ true → eqb (n % 4) 0 ≡ true
fours n e = eq-eqb (n % 4) 0 (omega (arith, eqb-true (n % 100) 0 e))

hundreds : (n : ℕ) → eqb (n % 400) 0 ≡ true → eqb (n % 100) 0 ≡ true
hundreds n e = eq-eqb (n % 100) 0 (omega (arith, eqb-true (n % 400) 0 e))

-- a leap year has one day more: so many years are divided by 4, by 100 and by 400
leap_days : (a b c : Bool) → (b ≡ true → a ≡ true) → (c ≡ true → b ≡ true)
    → year_days (a && (not b || c)) + one_if b ≡ 365 + one_if a + one_if c
leap_days true true true f g = refl
leap_days true true false f g = refl
leap_days true false true f g = never (g refl)
leap_days true false false f g = refl
leap_days false true c f g = never (f refl)
leap_days false false true f g = never (g refl)
leap_days false false false f g = refl

pub year_sum : (y : ℕ) → through_year y + y / 100 ≡ 365 * y + y / 4 + y / 400
unfolding through_year leap
year_sum zero = refl
year_sum (suc y) =
    let i = year_sum y in
    let l = leap_days (eqb (suc y % 4) 0) (eqb (suc y % 100) 0) (eqb (suc y % 400) 0) (fours (suc y)) (hundreds (suc y)) in
    let a = by_4 y (eqb (suc y % 4) 0) refl in
    let b = by_100 y (eqb (suc y % 100) 0) refl in
    let c = by_400 y (eqb (suc y % 400) 0) refl in
    omega (arith, i, l, a, b, c)

-- ---- cycles of four with one day more in the fourth

-- z cycles of k days and z / 4 days more; s is four times what is left, and what the division by four leaves
cycle : (k p z n s : ℕ) → 4 * n + 3 ≡ 4 * p + z + s → s < 4 * k + 1 → (n ≡ p + z / 4 + s / 4) × (n < p + k + (z + 1) / 4)
cycle k p z n s e h = (omega arith, omega arith)

cycle_back : (k p z n : ℕ) → p + z / 4 ≤ n → n < p + k + (z + 1) / 4 → (4 * p + z ≤ 4 * n + 3) × (4 * n + 3 < 4 * p + z + (4 * k + 1))
cycle_back k p z n g h = (omega arith, omega arith)

-- the century of a day and the day in it; the year of such a day and the day in it
century_cycle : (n : ℕ) → (n ≡ 36524 * century_of n + century_of n / 4 + in_century n) × (n < 36524 * century_of n + 36524 + (century_of n + 1) / 4)
century_cycle n = cycle 36524 (36524 * century_of n) (century_of n) n ((4 * n + 3) % 146097) (omega arith) (omega arith)

year_cycle : (n : ℕ) → (n ≡ 365 * year_of n + year_of n / 4 + in_year n) × (n < 365 * year_of n + 365 + (year_of n + 1) / 4)
year_cycle n = cycle 365 (365 * year_of n) (year_of n) n ((4 * n + 3) % 1461) (omega arith) (omega arith)

century_is : (n z : ℕ) → 36524 * z + z / 4 ≤ n → n < 36524 * z + 36524 + (z + 1) / 4 → century_of n ≡ z
century_is n z g h = let b = cycle_back 36524 (36524 * z) z n g h in omega (arith, b.0, b.1)

year_is : (n z : ℕ) → 365 * z + z / 4 ≤ n → n < 365 * z + 365 + (z + 1) / 4 → year_of n ≡ z
year_is n z g h = let b = cycle_back 365 (365 * z) z n g h in omega (arith, b.0, b.1)

century_from : (t C Z u v : ℕ) → t + C ≡ 365 * (100 * C + Z) + (25 * C + u) + v → t ≡ 36524 * C + v + (365 * Z + u)
century_from t C Z u v e = omega arith

-- so many days stand before year Z of century C, both counted from 0
pub century_sum : (C Z : ℕ) → Z < 100 → through_year (100 * C + Z) ≡ 36524 * C + C / 4 + (365 * Z + Z / 4)
century_sum C Z h =
    let a : (100 * C + Z) / 4 ≡ 25 * C + Z / 4 = omega arith in
    let b : (100 * C + Z) / 100 ≡ C = omega arith in
    let c : (100 * C + Z) / 400 ≡ C / 4 = omega arith in
    century_from (through_year (100 * C + Z)) C Z (Z / 4) (C / 4) (rw (a, b, c) at (year_sum (100 * C + Z)))

-- a day that comes before the year after it: in both cycles
pub record Before (C Z n : ℕ) : Type 0 where
  pub in_century_fact : n < 36524 * C + 36524 + (C + 1) / 4
  pub in_year_fact : n < 36524 * C + C / 4 + (365 * Z + 365 + (Z + 1) / 4)

module _ (C Z : ℕ) (h : Z < 100) where
  within : Dec (Z < 99) → (n : ℕ) → n < through_year (suc (100 * C + Z)) → Before C Z n
  within (yes l) n k =
      let e : suc (100 * C + Z) ≡ 100 * C + (Z + 1) = omega arith in
      let f : Z + 1 < 100 = omega arith in
      let g : n < 36524 * C + C / 4 + (365 * (Z + 1) + (Z + 1) / 4) = rw (e, century_sum C (Z + 1) f) at k in
      record { in_century_fact = omega arith; in_year_fact = omega arith }
  within (no l) n k =
      let e : suc (100 * C + Z) ≡ 100 * (C + 1) + 0 = omega arith in
      let f : 0 < 100 = omega arith in
      let g : n < 36524 * (C + 1) + (C + 1) / 4 + 0 = rw (e, century_sum (C + 1) 0 f) at k in
      record { in_century_fact = omega arith; in_year_fact = omega arith }

  within_back : Dec (Z < 99) → (n : ℕ) → Before C Z n → n < through_year (suc (100 * C + Z))
  within_back (yes l) n k =
      let e : suc (100 * C + Z) ≡ 100 * C + (Z + 1) = omega arith in
      let f : Z + 1 < 100 = omega arith in
      rw (e, century_sum C (Z + 1) f) (omega (arith, k.in_year_fact))
  within_back (no l) n k =
      let e : suc (100 * C + Z) ≡ 100 * (C + 1) + 0 = omega arith in
      let f : 0 < 100 = omega arith in
      rw (e, century_sum (C + 1) 0 f) (omega (arith, k.in_century_fact))

-- ---- the year of a day, and the day in it

-- the years before the day's own
abbrev pub years_of : ℕ → ℕ
years_of n = 100 * century_of n + year_of (in_century n)

pub few : (n : ℕ) → year_of (in_century n) < 100
few n = omega arith

pub year_found : (n : ℕ) → (n ≡ through_year (years_of n) + in_year (in_century n)) × (in_year (in_century n) < year_days (leap (suc (years_of n))))
unfolding through_year
year_found n =
    let c = century_cycle n in
    let y = year_cycle (in_century n) in
    let e : n ≡ through_year (years_of n) + in_year (in_century n) =
    rw (century_sum (century_of n) (year_of (in_century n)) (few n)) (omega (arith, c.0, y.0)) in
    let b : Before (century_of n) (year_of (in_century n)) n = record { in_century_fact = c.1; in_year_fact = omega (arith, c.0, y.1) } in
    let w = within_back (century_of n) (year_of (in_century n)) (few n) (dec_lt _ _) n b in
    (e, omega (arith, e, w))

pub record Counted (C Z k n : ℕ) : Type 0 where
  pub century : century_of n ≡ C
  pub year : year_of (in_century n) ≡ Z
  pub day : in_year (in_century n) ≡ k

counted : (C Z k n : ℕ) → n ≡ 36524 * C + C / 4 + (365 * Z + Z / 4) + k → Before C Z n → Counted C Z k n
counted C Z k n e b =
    let c : century_of n ≡ C = century_is n C (omega arith) b.in_century_fact in
    let r : n ≡ 36524 * C + C / 4 + in_century n = rw c at (century_cycle n).0 in
    let y : year_of (in_century n) ≡ Z = year_is (in_century n) Z (counts n C Z k (in_century n) e r) (inside n C Z (in_century n) r b.in_year_fact) in
    let d : in_century n ≡ 365 * Z + Z / 4 + in_year (in_century n) = rw y at (year_cycle (in_century n)).0 in
    record { century = c; year = y; day = rest n C Z k (in_century n) (in_year (in_century n)) e r d }
  where
    counts : (n C Z k r : ℕ) → n ≡ 36524 * C + C / 4 + (365 * Z + Z / 4) + k → n ≡ 36524 * C + C / 4 + r → 365 * Z + Z / 4 ≤ r
    counts n C Z k r e f = omega arith

    inside : (n C Z r : ℕ) → n ≡ 36524 * C + C / 4 + r → n < 36524 * C + C / 4 + (365 * Z + 365 + (Z + 1) / 4) → r < 365 * Z + 365 + (Z + 1) / 4
    inside n C Z r e f = omega arith

    rest : (n C Z k r d : ℕ) → n ≡ 36524 * C + C / 4 + (365 * Z + Z / 4) + k → n ≡ 36524 * C + C / 4 + r → r ≡ 365 * Z + Z / 4 + d → d ≡ k
    rest n C Z k r d e f g = omega arith

pub year_back : (y k : ℕ) → k < year_days (leap (suc y)) → (years_of (through_year y + k) ≡ y) × (in_year (in_century (through_year y + k)) ≡ k)
unfolding through_year
year_back y k l =
    let e : 100 * (y / 100) + y % 100 ≡ y = omega arith in
    let h : y % 100 < 100 = omega arith in
    let s : through_year y ≡ 36524 * (y / 100) + y / 100 / 4 + (365 * (y % 100) + y % 100 / 4) = rw e at (century_sum (y / 100) (y % 100) h) in
    let u : through_year y + k < through_year (suc (100 * (y / 100) + y % 100)) = rw e (omega arith) in
    let c = counted (y / 100) (y % 100) k (through_year y + k) (ap (λ (t : ℕ). t + k) s) (within (y / 100) (y % 100) h (dec_lt _ _) (through_year y + k) u) in
    (rw (c.century, c.year) e, c.day)
