-- Which date and time a payload means (02, item 1): the fields by 004, sections 2.3.13 and 2.4.1 to 2.4.3; whole days carried into the
-- date; UTC moved into the local time of a zone. Ticks are of 10 ^ -precision seconds.
use Rattle.std.specs.Prelude.{ℕ, ◌+◌, ◌-◌, ◌*◌, ◌/◌, ◌%◌, ◌^◌, Bool, cond, List, leb, ltb, length, get_or, Option, Some, None}
use Rattle.std.proofs.Math.Option as maths
use Rattle.sequences.specs.Lists.{part, little}
use Rattle.rules.specs.Rules.{time_bytes}
use Rattle.calendar.specs.Calendar.{last_day}
use Rattle.moment.specs.declared.Moment.{Moment}
use Rattle.moment.specs.declared.Moment.TheVariants.{Day, Time, DayTime, Zoned}
use Rattle.moment.specs.Moment.{moment_text}
use Rattle.instant.specs.declared.Form.{Form}
use Rattle.instant.specs.declared.Form.TheVariants.{Date2, DateTime2, Time2, DateTimeOffset, Milliseconds}
use Rattle.instant.specs.declared.Local.{Local}

-- ---- the fields: precision, time, three bytes of date; at the end two bytes of zone

abbrev pub precision_in : List ℕ → ℕ
precision_in p = get_or p 0 0

abbrev pub ticks_in : List ℕ → ℕ
ticks_in p = little (part p 1 (time_bytes (precision_in p)))

abbrev pub day_in : List ℕ → ℕ
day_in p = little (part p (1 + time_bytes (precision_in p)) 3)

abbrev pub zone_in : List ℕ → ℕ
zone_in p = little (part p (length p - 2) 2)

-- a zone is signed: the upper half of the numbers of two bytes is below zero
abbrev pub is_west : ℕ → Bool
is_west zone = leb 32768 zone

abbrev pub minutes_of : ℕ → ℕ
minutes_of zone = cond (is_west zone) (65536 - zone) zone

-- ---- instants

-- the ticks of a day
unfoldable pub per_day : ℕ → ℕ
per_day precision = 86400 * 10 ^ precision

-- the ticks from 0001-01-01T00:00:00 on, whole days of the time among them
unfoldable pub since_first : ℕ → ℕ → ℕ → ℕ
since_first precision day ticks = day * per_day precision + ticks

-- the instant that a payload stores
abbrev pub stored_in : List ℕ → ℕ
stored_in p = since_first (precision_in p) (day_in p) (ticks_in p)

-- a day and a time of that day
abbrev pub at : ℕ → ℕ → Local
at day ticks = record { day = day; ticks = ticks }

-- the date after so many ticks, and the time of that day; after 9999-12-31 there is none
unfoldable pub dated : ℕ → ℕ → Option Local
dated precision n = cond (leb (n / per_day precision) last_day) (Some (at (n / per_day precision) (n % per_day precision))) None

-- the ticks of a zone
abbrev pub zone_ticks : ℕ → ℕ → ℕ
zone_ticks precision minutes = minutes * 60 * 10 ^ precision

-- the same with the zone added, or taken off where it is below zero; before 0001-01-01 there is none
unfoldable pub local_of : ℕ → ℕ → Bool → ℕ → Option Local
local_of precision n minus minutes =
    let zone = zone_ticks precision minutes in
    cond minus (cond (ltb n zone) None (dated precision (n - zone))) (dated precision (n + zone))

-- local date and time of the instant that a payload stores
abbrev pub local_in : List ℕ → Option Local
local_in p = local_of (precision_in p) (stored_in p) (is_west (zone_in p)) (minutes_of (zone_in p))

-- ---- what a payload means

abbrev pub day_time_at : ℕ → Option Local → Option Moment
day_time_at precision (Some l) = Some (DayTime l.day precision l.ticks)
day_time_at precision None = None

abbrev pub zoned_at : ℕ → Bool → ℕ → Option Local → Option Moment
zoned_at precision minus minutes (Some l) = Some (Zoned l.day precision l.ticks minus minutes)
zoned_at precision minus minutes None = None

-- a 7D has a time alone: its whole days are left out; an 81 is four times its milliseconds, less than a day
unfoldable pub moment_of : Form → List ℕ → Option Moment
moment_of Date2 p = Some (Day (little p))
moment_of DateTime2 p = day_time_at (precision_in p) (dated (precision_in p) (stored_in p))
moment_of Time2 p = Some (Time (precision_in p) (ticks_in p % per_day (precision_in p)))
moment_of DateTimeOffset p = zoned_at (precision_in p) (is_west (zone_in p)) (minutes_of (zone_in p)) (local_in p)
moment_of Milliseconds p = cond (ltb (little p / 4) (per_day 3)) (Some (Time 3 (little p / 4))) None

-- its text, or none
abbrev pub found_text : Option Moment → maths.Option (List ℕ)
found_text (Some moment) = maths.some (moment_text moment)
found_text None = maths.none
