-- `instant::local_at` meets its contract: the zone is added, or taken off where there is as much. Assumes nothing.
use Rattle.instant.proofs.Ways.{zone_room, local_none, local_west, local_east}
use native.Mathlib.Omega.{arith}
use Rattle.instant.proofs.local_at.Goals as goal

pub overflow_mul-zone-2 : goal.overflow_mul-zone-2
overflow_mul-zone-2 c = omega (arith, zone_room _ _ c.requires.2 c.ten_to.ensures.2)

pub returns-then-n-zone : goal.returns-then-n-zone
returns-then-n-zone c = local_none _ _ _ c.ten_to.ensures.0 c.if-minus.true c.if-n-zone.true

pub returns-then-minus : goal.returns-then-minus
returns-then-minus c =
    local_west _ _ _ c.ten_to.ensures.0 c.if-minus.true c.if-n-zone.false
    c.date_at.ensures

pub overflow_add-n : goal.overflow_add-n
overflow_add-n c = omega (arith, zone_room _ _ c.requires.2 c.ten_to.ensures.2, c.requires.1)

pub returns : goal.returns
returns c = local_east _ _ _ c.ten_to.ensures.0 c.if-minus.false c.date_at-2.ensures
