-- `plan::half_of` meets its contract: each arm has half of its own power. Assumes nothing.
use Rattle.chunks.proofs.Words.{last_size}
use Rattle.plan.proofs.Plans.{half_at}
use mathlib.Core.Path.{refl}
use native.Mathlib.Omega.{arith}
use Rattle.plan.proofs.half_of.Goals as goal

pub returns-in-1 : goal.returns-in-1
returns-in-1 c = half_at 1 128 c.in-1.is refl

pub returns-in-2 : goal.returns-in-2
returns-in-2 c = half_at 2 32768 c.in-2.is refl

pub returns-in-4 : goal.returns-in-4
returns-in-4 c = half_at 4 2147483648 c.in-4.is refl

pub returns-in_default : goal.returns-in_default
returns-in_default c = half_at 8 9223372036854775808 (last_size _ c.requires (omega arith)) refl
