-- Serves the code. The date of a day number as the code finds it: by cycles of 400 and of 4 years, and by months of a year in which
-- February had 30 days. That this is the date is proved (proofs/Laws.antt: `day_of_date`, `date_valid`, `date_of_day`).
use Rattle.std.specs.Prelude.{ℕ, ◌+◌, ◌-◌, ◌*◌, ◌/◌, ◌%◌, Bool, cond, ltb}
use Rattle.calendar.specs.declared.Date.{Date}
use Rattle.calendar.specs.Calendar.{leap}

-- the century of a day and the day in it, both from 0 on
abbrev pub century_of : ℕ → ℕ
century_of n = (4 * n + 3) / 146097

abbrev pub in_century : ℕ → ℕ
in_century n = (4 * n + 3) % 146097 / 4

-- the year of such a day and the day in it, both from 0 on
abbrev pub year_of : ℕ → ℕ
year_of r = (4 * r + 3) / 1461

abbrev pub in_year : ℕ → ℕ
in_year r = (4 * r + 3) % 1461 / 4

-- the day of the year as if February had 30 days
abbrev pub evened : Bool → ℕ → ℕ
evened isLeap day = cond (ltb day (cond isLeap 60 59)) day (day + cond isLeap 1 2)

-- the month of such a day and the day in it, both from 0 on
abbrev pub month_at : ℕ → ℕ
month_at e = (12 * e + 6) / 367

abbrev pub day_at : ℕ → ℕ
day_at e = e - (367 * month_at e + 5) / 12

abbrev pub date_in : ℕ → ℕ → Date
date_in year e = record { year = year; month = month_at e + 1; day = day_at e + 1 }

unfoldable pub date_of : ℕ → Date
date_of n =
    let year = 100 * century_of n + year_of (in_century n) + 1 in
    date_in year (evened (leap year) (in_year (in_century n)))
