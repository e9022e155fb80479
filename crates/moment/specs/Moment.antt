-- The text of dates and times (02, item 1), as 16-bit units. Each unit is an ASCII code: 43 and 45 are the signs, 45 is the hyphen too,
-- 58 the colon, 84 the T.
use Rattle.std.specs.Prelude.{ℕ, ◌/◌, ◌%◌, ◌^◌, Bool, cond, List, ◌∷◌, ◌++◌}
use Rattle.numeral.specs.Numeral.{last_digits, fraction}
use Rattle.calendar.specs.declared.Date.{Date}
use Rattle.calendar.specs.Dates.{date_of}
use Rattle.moment.specs.declared.Moment.{Moment}
use Rattle.moment.specs.declared.Moment.TheVariants.{Day, Time, DayTime, Zoned}

-- yyyy-mm-dd
unfoldable pub date_text : Date → List ℕ
date_text d = last_digits 4 d.year ++ (45 ∷ (last_digits 2 d.month ++ (45 ∷ last_digits 2 d.day)))

-- hh:mm:ss, and from precision 1 on a point and as many digits; `ticks` are of 10 ^ -precision seconds
unfoldable pub clock_text : ℕ → ℕ → List ℕ
clock_text precision ticks =
    let seconds = ticks / 10 ^ precision in
    last_digits 2 (seconds / 3600) ++ (58 ∷ (last_digits 2 (seconds / 60 % 60) ++ (58 ∷ (last_digits 2 (seconds % 60) ++ fraction precision ticks))))

-- date, T, time
unfoldable pub day_time_text : ℕ → ℕ → ℕ → List ℕ
day_time_text day precision ticks = date_text (date_of day) ++ (84 ∷ clock_text precision ticks)

-- +hh:mm or -hh:mm
unfoldable pub zone_text : Bool → ℕ → List ℕ
zone_text minus minutes = cond minus 45 43 ∷ (last_digits 2 (minutes / 60) ++ (58 ∷ last_digits 2 (minutes % 60)))

unfoldable pub moment_text : Moment → List ℕ
moment_text (Day day) = date_text (date_of day)
moment_text (Time precision ticks) = clock_text precision ticks
moment_text (DayTime day precision ticks) = day_time_text day precision ticks
moment_text (Zoned day precision ticks minus minutes) = day_time_text day precision ticks ++ zone_text minus minutes
