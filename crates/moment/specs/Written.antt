-- Serves the code. What writing a date or a time asks of it.
use Rattle.std.specs.Prelude.{◌≤◌}
use Rattle.calendar.specs.Calendar.{last_day}
use Rattle.moment.specs.declared.Moment.{Moment}
use Rattle.moment.specs.declared.Moment.TheVariants.{Day, Time, DayTime, Zoned}

-- a date of the calendar, and a precision that there is
abbrev pub Writable : Moment → Type 0
Writable (Day day) = day ≤ last_day
Writable (Time precision ticks) = precision ≤ 7
Writable (DayTime day precision ticks) = (day ≤ last_day) × (precision ≤ 7)
Writable (Zoned day precision ticks minus minutes) = (day ≤ last_day) × (precision ≤ 7)
