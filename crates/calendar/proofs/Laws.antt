-- The calendar both ways (02, item 1): the date of a number is a date of the calendar and has that number, and the date of a date's number
-- is that date. Assumes nothing.
use Prim.Native.Nat.{ℕ, suc, ◌+◌, ◌-◌, ◌*◌, ◌/◌, ◌≤◌, ◌<◌}
use mathlib.Core.Path.{◌≡◌, refl, sym, ap, ◌∙◌}
use native.Mathlib.Omega.{arith}
use native.Mathlib.Nat.{add-sub_cancel, sub-add_cancel}
use native.Mathlib.Numerals.{add-one}
use Rattle.calendar.specs.declared.Date.{Date}
use Rattle.calendar.specs.Calendar.{leap, through_year, month_days, through_month, Valid, day_of, last_day}
use Rattle.calendar.specs.Dates.{date_of, century_of, in_century, year_of, in_year, evened, month_at, day_at}
use Rattle.calendar.proofs.Years.{years_of, few, century_sum, year_found, year_back}
use Rattle.calendar.proofs.Months.{InYear, OfMonth, month_found, month_back}

-- the years before a day's own are at most 9998
few_years : (n C Z k : ℕ) → Z < 100 → n ≤ last_day → n ≡ 36524 * C + C / 4 + (365 * Z + Z / 4) + k → 100 * C + Z ≤ 9998
few_years n C Z k z h e = let c : C ≤ 99 = omega arith in omega arith

module _ (Y k m d : ℕ) (i : InYear (leap (Y + 1)) k m d) where
  day_from : day_of (record { year = Y + 1; month = m + 1; day = d + 1 }) ≡ through_year Y + k
  unfolding day_of
  day_from = rw (add-sub_cancel Y 1, add-sub_cancel m 1, add-sub_cancel d 1) (ap (λ (t : ℕ). through_year Y + t) i.sum)

  valid_from : Y ≤ 9998 → Valid (record { year = Y + 1; month = m + 1; day = d + 1 })
  valid_from h =
      record {
        year_first = omega arith;
        year_last = omega arith;
        month_first = omega arith;
        month_last = omega (arith, i.month_fits);
        day_first = omega arith;
        day_last = rw (add-sub_cancel m 1) (omega (arith, i.day_fits));
      }

-- the day of the year of a day, as if February had 30 days
abbrev evened_of : ℕ → ℕ
evened_of n = evened (leap (years_of n + 1)) (in_year (in_century n))

-- the month and the day that the date of a day has
dated : (n : ℕ) → InYear (leap (years_of n + 1)) (in_year (in_century n)) (month_at (evened_of n)) (day_at (evened_of n))
dated n = month_found (leap (years_of n + 1)) (in_year (in_century n)) (rw add-one (year_found n).1)

pub day_of_date : (n : ℕ) → day_of (date_of n) ≡ n
unfolding date_of
day_of_date n = day_from (years_of n) (in_year (in_century n)) _ _ (dated n) ∙ sym (year_found n).0

pub date_valid : (n : ℕ) → n ≤ last_day → Valid (date_of n)
unfolding date_of
date_valid n h =
    valid_from (years_of n) (in_year (in_century n)) _ _ (dated n)
    (few_years n (century_of n) (year_of (in_century n)) (in_year (in_century n)) (few n) h
    ((year_found n).0 ∙ ap (λ (t : ℕ). t + in_year (in_century n)) (century_sum (century_of n) (year_of (in_century n)) (few n))))

date_from : (Y m d n : ℕ) → years_of n ≡ Y → OfMonth (leap (Y + 1)) m d (in_year (in_century n))
    → date_of n ≡ record { year = Y + 1; month = m + 1; day = d + 1 }
unfolding date_of
date_from Y m d n e o = rw (e, o.day, o.month)

pub date_of_day : (d : Date) → Valid d → date_of (day_of d) ≡ d
unfolding day_of
date_of_day d v =
    let y : d.year - 1 + 1 ≡ d.year = sub-add_cancel v.year_first in
    let z : suc (d.year - 1) ≡ d.year = sym (add-one (d.year - 1)) ∙ y in
    let m : d.month - 1 + 1 ≡ d.month = sub-add_cancel v.month_first in
    let e : d.day - 1 + 1 ≡ d.day = sub-add_cancel v.day_first in
    let a : d.month - 1 < 12 = omega (arith, v.month_first, v.month_last) in
    let b : d.day - 1 < month_days (leap d.year) (d.month - 1) = omega (arith, v.day_first, v.day_last) in
    let o = month_back (leap d.year) (d.month - 1) (d.day - 1) a b in
    let k = year_back (d.year - 1) (through_month (leap d.year) (d.month - 1) + (d.day - 1)) (rw z o.fits) in
    date_from (d.year - 1) (d.month - 1) (d.day - 1) _ k.0 (rw (y, k.1) o) ∙ rw (y, m, e)

-- 004 (2.4.1) counts from 0001-1-1; 02, item 1, names the day 693,595
pub first_day : date_of 0 ≡ record { year = 1; month = 1; day = 1 }
unfolding date_of leap
first_day = refl

pub survey_day : date_of 693595 ≡ record { year = 1900; month = 1; day = 1 }
unfolding date_of leap
survey_day = refl

pub last_day_lem : date_of last_day ≡ record { year = 9999; month = 12; day = 31 }
unfolding date_of leap
last_day_lem = refl
