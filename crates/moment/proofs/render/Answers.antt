-- `moment::render` meets its contract: each arm by the law of its kind of moment. Assumes nothing.
use Rattle.std.proofs.Common.{ap}
use Rattle.moment.proofs.Puts.{writable_on, alone, zone_room, zoned, text_day, text_time, text_day_time, text_zoned}
use lib.ListN.{length}
use native.Mathlib.Omega.{arith}
use Rattle.moment.proofs.render.Goals as goal

pub put_date-requires : goal.put_date-requires
put_date-requires c = (writable_on c.in-Day.is c.requires, omega (arith, ap length c.clear.ensures))

pub put_clock-requires : goal.put_clock-requires
put_clock-requires c = (writable_on c.in-Time.is c.requires, omega (arith, ap length c.clear.ensures))

pub put_day_time-requires : goal.put_day_time-requires
put_day_time-requires c =
    let w = writable_on c.in-DayTime.is c.requires in
    (w.0, w.1, omega (arith, ap length c.clear.ensures))

pub put_zone-requires : goal.put_zone-requires
put_zone-requires c = omega (arith, ap length c.clear.ensures)

pub put_day_time-requires-in-Zoned : goal.put_day_time-requires-in-Zoned
put_day_time-requires-in-Zoned c =
    let w = writable_on c.in-Zoned.is c.requires in
    (w.0, w.1, zone_room _ _ _ c.clear.ensures c.put_zone.ensures)

pub returns-in-Day : goal.returns-in-Day
returns-in-Day c = text_day c.in-Day.is (alone _ _ c.clear.ensures c.put_date.ensures)

pub returns-in-Time : goal.returns-in-Time
returns-in-Time c = text_time c.in-Time.is (alone _ _ c.clear.ensures c.put_clock.ensures)

pub returns-in-DayTime : goal.returns-in-DayTime
returns-in-DayTime c = text_day_time c.in-DayTime.is (alone _ _ c.clear.ensures c.put_day_time.ensures)

pub returns-in-Zoned : goal.returns-in-Zoned
returns-in-Zoned c = text_zoned c.in-Zoned.is (zoned _ _ _ _ _ _ c.clear.ensures c.put_zone.ensures c.put_day_time-in-Zoned.ensures)
