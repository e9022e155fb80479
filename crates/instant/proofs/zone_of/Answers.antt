-- `instant::zone_of` meets its contract: the last two bytes, signed. Assumes nothing.
use Rattle.instant.proofs.Fields.{zone_below, zone_east, zone_west}
use native.Mathlib.Omega.{arith}
use Rattle.instant.proofs.zone_of.Goals as goal

pub returns-then-zone-lt-ZONE_HALF : goal.returns-then-zone-lt-ZONE_HALF
returns-then-zone-lt-ZONE_HALF c = zone_east c.args.p.now c.requires c.little_at-zone.ensures.0 c.if-zone-lt-ZONE_HALF.true

pub overflow_sub-result : goal.overflow_sub-result
overflow_sub-result c =
    omega (arith, zone_below c.args.p.now c.requires c.little_at-zone.ensures.1)

pub returns : goal.returns
returns c = zone_west c.args.p.now c.requires c.little_at-zone.ensures.0 c.if-zone-lt-ZONE_HALF.false
