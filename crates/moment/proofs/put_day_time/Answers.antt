-- `moment::put_day_time` meets its contract: the time, the T before it, the date before that. Assumes nothing.
use Rattle.std.proofs.Common.{ap}
use Rattle.moment.proofs.Puts.{clock_room, day_time_put}
use lib.ListN.{length}
use native.Mathlib.Omega.{arith}
use Rattle.moment.proofs.put_day_time.Goals as goal

pub put-requires : goal.put-requires
put-requires c = omega (arith, clock_room _ _ _ c.requires.1 c.put_clock.ensures c.requires.2)

pub put_date-requires : goal.put_date-requires
put_date-requires c =
    (c.requires.0, omega (arith, clock_room _ _ _ c.requires.1 c.put_clock.ensures c.requires.2, ap length c.put.ensures))

pub returns : goal.returns
returns c = day_time_put _ _ _ _ c.put_clock.ensures c.put.ensures c.put_date.ensures
