-- `token::class_at` meets its contract: the table's rule at the byte. Assumes nothing.
use Rattle.token.proofs.Rule.{class_here}
use native.Mathlib.Omega.{arith}
use Rattle.token.proofs.class_at.Goals as goal

pub returns : goal.returns
returns c = class_here c.requires (omega arith) c.class_from.ensures
