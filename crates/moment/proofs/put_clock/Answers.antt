-- `moment::put_clock` meets its contract: the digits after the point, seconds, minutes and hours from the right. Assumes nothing.
use Rattle.moment.proofs.Puts.{fraction_long, digits_long, field_long, clock_put}
use native.Mathlib.Omega.{arith}
use Rattle.moment.proofs.put_clock.Goals as goal

pub put_last-requires-clause-room : goal.put_last-requires-clause-room
put_last-requires-clause-room c = omega (arith, fraction_long _ _ _ c.put_fraction.ensures.put, c.requires.0, c.requires.1)

pub put_field-requires : goal.put_field-requires
put_field-requires c = omega (arith, fraction_long _ _ _ c.put_fraction.ensures.put, digits_long _ _ _ c.put_last.ensures.put, c.requires.0, c.requires.1)

pub put_field-requires-2 : goal.put_field-requires-2
put_field-requires-2 c =
    omega (arith, fraction_long _ _ _ c.put_fraction.ensures.put, digits_long _ _ _ c.put_last.ensures.put, field_long _ _ _ _ c.put_field.ensures, c.requires.0, c.requires.1)

pub returns : goal.returns
returns c = clock_put _ _ _ c.ten_to.ensures.0 c.put_fraction.ensures.put c.put_last.ensures.put c.put_field.ensures c.put_field-2.ensures
