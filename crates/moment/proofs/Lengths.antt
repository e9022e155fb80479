-- How long the text of a date or a time is. Assumes nothing.
use Prim.Native.Nat.{ℕ, ◌+◌, ◌/◌, ◌%◌, ◌^◌, ◌≤◌}
use mathlib.Core.Path.{◌≡◌}
use mathlib.Core.Bool.{Bool}
use native.Mathlib.Omega.{arith}
use lib.ListN.{length, length-append}
use Rattle.numeral.proofs.Digits.{length_last_digits, length_fraction}
use Rattle.calendar.specs.declared.Date.{Date}
use Rattle.calendar.specs.Dates.{date_of}
use Rattle.moment.specs.declared.Moment.{Moment}
use Rattle.moment.specs.declared.Moment.TheVariants.{Day, Time, DayTime, Zoned}
use Rattle.moment.specs.Moment.{date_text, clock_text, day_time_text, zone_text, moment_text}
use Rattle.moment.specs.Written.{Writable}

pub length_date : (d : Date) → length (date_text d) ≡ 10
unfolding date_text
length_date d =
    let a = length_last_digits 4 d.year in
    let b = length_last_digits 2 d.month in
    let c = length_last_digits 2 d.day in
    simp length-append (omega arith)

pub length_clock : (precision ticks : ℕ) → length (clock_text precision ticks) ≤ 9 + precision
unfolding clock_text
length_clock precision ticks =
    let seconds = ticks / 10 ^ precision in
    let a = length_last_digits 2 (seconds / 3600) in
    let b = length_last_digits 2 (seconds / 60 % 60) in
    let c = length_last_digits 2 (seconds % 60) in
    let d = length_fraction precision ticks in
    simp length-append (omega arith)

length_day_time : (day precision ticks : ℕ) → length (day_time_text day precision ticks) ≤ 20 + precision
unfolding day_time_text
length_day_time day precision ticks =
    let a = length_date (date_of day) in
    let b = length_clock precision ticks in
    simp length-append (omega arith)

pub length_zone : (minus : Bool) (minutes : ℕ) → length (zone_text minus minutes) ≡ 6
unfolding zone_text
length_zone minus minutes =
    let a = length_last_digits 2 (minutes / 60) in
    let b = length_last_digits 2 (minutes % 60) in
    simp length-append (omega arith)

-- the longest is one of precision 7 with its zone
pub length_moment : (m : Moment) → Writable m → length (moment_text m) ≤ 33
unfolding moment_text
length_moment (Day day) w = let a = length_date (date_of day) in omega arith
length_moment (Time precision ticks) w = let a = length_clock precision ticks in omega arith
length_moment (DayTime day precision ticks) w = let a = length_day_time day precision ticks in omega (arith, w.1)
length_moment (Zoned day precision ticks minus minutes) w =
    let a = length_day_time day precision ticks in
    let b = length_zone minus minutes in
    simp length-append (omega (arith, w.1))
