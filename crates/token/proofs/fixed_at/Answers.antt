-- `token::fixed_at` meets its contract: the table's rule at the byte. Assumes nothing.
use Rattle.token.proofs.Fixed.{fixed_here}
use native.Mathlib.Omega.{arith}
use Rattle.token.proofs.fixed_at.Goals as goal

pub returns : goal.returns
returns c = fixed_here c.requires (omega arith) c.fixed_from.ensures
