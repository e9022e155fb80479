-- The month of a day of the year: both directions are tested at every day. Assumes nothing.
use Prim.Native.Nat.{ℕ, zero, suc, ◌+◌, ◌<◌}
use mathlib.Core.Path.{◌≡◌, refl}
use mathlib.Core.Bool.{Bool, true, false, ◌&&◌}
use native.Mathlib.Omega.{arith}
use native.Mathlib.Decide.{dec_lt}
use lib.Dec.{eqb, ltb}
use borrow.Author.Tests.{eqb-true, ltb-true}
use Rattle.sequences.proofs.Tests.{and_left, and_right}
use Rattle.calendar.specs.Calendar.{year_days, month_days, through_month}
use Rattle.calendar.specs.Dates.{evened, month_at, day_at}

-- ---- a test that is computed at every number below a bound

abbrev below : ℕ → (ℕ → Bool) → Bool
below zero f = true
below (suc n) f = f n && below n f

at : (n : ℕ) (f : ℕ → Bool) → below n f ≡ true → (k : ℕ) → k < n → f k ≡ true
at zero f t k h = absurd (let q : ⊥ = omega arith in q)
at (suc n) f t k h = go (dec_lt k n) (λ l. at n f (and_right (f n) (below n f) t) k l)
  where
    go : Dec (k < n) → (k < n → f k ≡ true) → f k ≡ true
    go (yes l) again = again l
    go (no l) again = let e : k ≡ n = omega arith in rw e (and_left (f n) (below n f) t)

-- ---- both directions

-- month and day of a day of the year, both from 0
pub record InYear (l : Bool) (k m d : ℕ) : Type 0 where
  pub month_fits : m < 12
  pub day_fits : d < month_days l m
  pub sum : through_month l m + d ≡ k

abbrev in_year_test : Bool → ℕ → ℕ → ℕ → Bool
in_year_test l k m d = ltb m 12 && (ltb d (month_days l m) && eqb (through_month l m + d) k)

in_year_by : (l : Bool) (k m d : ℕ) → in_year_test l k m d ≡ true → InYear l k m d
in_year_by l k m d t =
    let a = and_left (ltb m 12) _ t in
    let b = and_right (ltb m 12) (ltb d (month_days l m) && eqb (through_month l m + d) k) t in
    let c = and_left (ltb d (month_days l m)) (eqb (through_month l m + d) k) b in
    let e = and_right (ltb d (month_days l m)) (eqb (through_month l m + d) k) b in
    record { month_fits = ltb-true _ _ a; day_fits = ltb-true _ _ c; sum = eqb-true _ _ e }

all_days : (l : Bool) → below (year_days l) (λ k. in_year_test l k (month_at (evened l k)) (day_at (evened l k))) ≡ true
unfolding through_month
all_days true = refl
all_days false = refl

pub month_found : (l : Bool) (k : ℕ) → k < year_days l → InYear l k (month_at (evened l k)) (day_at (evened l k))
month_found l k h = in_year_by l k _ _ (at (year_days l) (λ k. in_year_test l k (month_at (evened l k)) (day_at (evened l k))) (all_days l) k h)

-- the month and the day that are found for a day of a month
pub record OfMonth (l : Bool) (m d k : ℕ) : Type 0 where
  pub fits : k < year_days l
  pub month : month_at (evened l k) ≡ m
  pub day : day_at (evened l k) ≡ d

abbrev of_month_test : Bool → ℕ → ℕ → ℕ → Bool
of_month_test l m d k = ltb k (year_days l) && (eqb (month_at (evened l k)) m && eqb (day_at (evened l k)) d)

of_month_by : (l : Bool) (m d k : ℕ) → of_month_test l m d k ≡ true → OfMonth l m d k
of_month_by l m d k t =
    let a = and_left (ltb k (year_days l)) _ t in
    let b = and_right (ltb k (year_days l)) (eqb (month_at (evened l k)) m && eqb (day_at (evened l k)) d) t in
    let c = and_left (eqb (month_at (evened l k)) m) (eqb (day_at (evened l k)) d) b in
    let e = and_right (eqb (month_at (evened l k)) m) (eqb (day_at (evened l k)) d) b in
    record { fits = ltb-true _ _ a; month = eqb-true _ _ c; day = eqb-true _ _ e }

all_months : (l : Bool) → below 12 (λ m. below (month_days l m) (λ d. of_month_test l m d (through_month l m + d))) ≡ true
unfolding through_month
all_months true = refl
all_months false = refl

pub month_back : (l : Bool) (m d : ℕ) → m < 12 → d < month_days l m → OfMonth l m d (through_month l m + d)
month_back l m d h k =
    of_month_by l m d _
    (at (month_days l m) (λ d. of_month_test l m d (through_month l m + d))
    (at 12 (λ m. below (month_days l m) (λ d. of_month_test l m d (through_month l m + d))) (all_months l) m h)
    d k)
