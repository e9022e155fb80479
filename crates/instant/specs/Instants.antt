-- What is said of an instant and of the date and time that are found for it (02, item 1).
use Rattle.std.specs.Prelude.{ℕ, suc, ◌+◌, ◌*◌, ◌≤◌, ◌<◌, ◌≡◌, ◌⊎◌, Bool, true, false, cond}
use Rattle.calendar.specs.Calendar.{last_day}
use Rattle.instant.specs.Instant.{per_day, since_first, zone_ticks}

-- a day of the calendar and a time of that day, n ticks after the first day's start
pub record Placed (precision n day ticks : ℕ) : Type 0 where
  pub in_calendar : day ≤ last_day
  pub in_day : ticks < per_day precision
  pub same : since_first precision day ticks ≡ n

-- n ticks are past the last day
abbrev pub Past : ℕ → ℕ → Type 0
Past precision n = suc last_day * per_day precision ≤ n

-- a day and a time whose ticks are n and those of the zone; a zone below zero stands on the other side
pub record Moved (precision n : ℕ) (minus : Bool) (minutes day ticks : ℕ) : Type 0 where
  pub in_calendar : day ≤ last_day
  pub in_day : ticks < per_day precision
  pub same : since_first precision day ticks + cond minus (zone_ticks precision minutes) 0 ≡ n + cond minus 0 (zone_ticks precision minutes)

-- with the zone, n ticks are before the first day or past the last
abbrev pub Off : ℕ → ℕ → Bool → ℕ → Type 0
Off precision n true minutes = (n < zone_ticks precision minutes) ⊎ (suc last_day * per_day precision + zone_ticks precision minutes ≤ n)
Off precision n false minutes = Past precision (n + zone_ticks precision minutes)
