-- A read adds its bytes to the front.
use Rattle.std.proofs.Common.{rules, refl}
use Rattle.console.proofs.Fronts.{front_longer}
use Rattle.console.proofs.read_full.Goals as goal

pub loop-size-preserved : goal.loop-size-preserved
loop-size-preserved g c = (search rules, search rules, front_longer _ _ _ c.loop-size.size _ c.in-Ok.count _ _ _ c.loop-size.invariant.1 c.in-Ok.ensures.bound.0 refl c.loop-size.invariant.2 c.in-Ok.ensures.bytes.0)
