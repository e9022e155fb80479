-- The proleptic Gregorian calendar (004, section 2; 02, item 1): which dates there are, and the day number of each. Day 0 is 0001-01-01
-- (004, section 2.4.1).
use Rattle.std.specs.Prelude.{ℕ, zero, suc, ◌+◌, ◌-◌, ◌%◌, ◌≤◌, Bool, cond, not, ◌&&◌, ◌||◌, [], ◌∷◌, get_or, eqb}
use Rattle.calendar.specs.declared.Date.{Date}

-- every fourth year, but of the hundredth years only every fourth
unfoldable pub leap : ℕ → Bool
leap year = eqb (year % 4) 0 && (not (eqb (year % 100) 0) || eqb (year % 400) 0)

abbrev pub year_days : Bool → ℕ
year_days isLeap = cond isLeap 366 365

-- the days of the years 1 to y
unfoldable pub through_year : ℕ → ℕ
through_year zero = 0
through_year (suc y) = through_year y + year_days (leap (suc y))

-- the days of month m + 1
abbrev pub month_days : Bool → ℕ → ℕ
month_days isLeap m = get_or (31 ∷ cond isLeap 29 28 ∷ 31 ∷ 30 ∷ 31 ∷ 30 ∷ 31 ∷ 31 ∷ 30 ∷ 31 ∷ 30 ∷ 31 ∷ []) m 0

-- the days of the first m months
unfoldable pub through_month : Bool → ℕ → ℕ
through_month isLeap zero = 0
through_month isLeap (suc m) = through_month isLeap m + month_days isLeap m

-- a date of the years 1 to 9999
pub record Valid (d : Date) : Type 0 where
  pub year_first : 1 ≤ d.year
  pub year_last : d.year ≤ 9999
  pub month_first : 1 ≤ d.month
  pub month_last : d.month ≤ 12
  pub day_first : 1 ≤ d.day
  pub day_last : d.day ≤ month_days (leap d.year) (d.month - 1)

-- the number of a date: the days before it
unfoldable pub day_of : Date → ℕ
day_of d = through_year (d.year - 1) + (through_month (leap d.year) (d.month - 1) + (d.day - 1))

-- that of 9999-12-31
abbrev pub last_day : ℕ
last_day = 3652058
