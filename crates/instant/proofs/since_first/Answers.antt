-- `instant::since_first` meets its contract: no sum or product is too large. Assumes nothing.
use Rattle.instant.proofs.Ways.{instant_room, since_is}
use native.Mathlib.Omega.{arith}
use Rattle.instant.proofs.since_first.Goals as goal

pub overflow_mul-result : goal.overflow_mul-result
overflow_mul-result c = omega (arith, instant_room _ _ c.requires.1 c.per_day.ensures.2)

pub overflow_add-result : goal.overflow_add-result
overflow_add-result c = omega (arith, instant_room _ _ c.requires.1 c.per_day.ensures.2, c.requires.2)

pub returns : goal.returns
returns c =
    (since_is _ _ _ c.per_day.ensures.0, omega (arith, instant_room _ _ c.requires.1 c.per_day.ensures.2, c.requires.2))
