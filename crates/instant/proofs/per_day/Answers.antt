-- `instant::per_day` meets its contract. Assumes nothing.
use Rattle.instant.proofs.Ways.{per_day_is}
use native.Mathlib.Omega.{arith}
use Rattle.instant.proofs.per_day.Goals as goal

pub returns : goal.returns
returns c = let e = c.ten_to.ensures in (per_day_is _ e.0, omega (arith, e.1), omega (arith, e.2))
