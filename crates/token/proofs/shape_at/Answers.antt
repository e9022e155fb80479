-- `token::shape_at` meets its contract: the table's rule at the byte. Assumes nothing.
use Rattle.token.proofs.Rule.{shape_here}
use native.Mathlib.Omega.{arith}
use Rattle.token.proofs.shape_at.Goals as goal

pub returns : goal.returns
returns c = shape_here c.requires (omega arith) c.shape_from.ensures
