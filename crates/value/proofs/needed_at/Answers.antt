-- `value::needed_at` meets its contract. Assumes nothing.
use Rattle.value.proofs.Fields.{needed_there, needed_short}
use native.Mathlib.Omega.{arith}
use Rattle.value.proofs.needed_at.Goals as goal

pub returns-then-size-doc : goal.returns-then-size-doc
returns-then-size-doc c = needed_there _ _ _ (omega arith)

pub returns-else-size-doc : goal.returns-else-size-doc
returns-else-size-doc c = needed_short _ _ _ (omega arith)
