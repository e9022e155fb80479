-- `moment::put_zone` meets its contract: minutes, hours and the sign from the right. Assumes nothing.
use Rattle.moment.proofs.Puts.{digits_long, field_long, zone_put}
use native.Mathlib.Omega.{arith}
use Rattle.moment.proofs.put_zone.Goals as goal

pub put_field-requires : goal.put_field-requires
put_field-requires c = omega (arith, digits_long _ _ _ c.put_last.ensures.put, c.requires)

pub put-requires : goal.put-requires
put-requires c = omega (arith, digits_long _ _ _ c.put_last.ensures.put, field_long _ _ _ _ c.put_field.ensures, c.requires)

pub returns : goal.returns
returns c = zone_put _ _ _ c.put_last.ensures.put c.put_field.ensures c.sign_of.ensures c.put.ensures
