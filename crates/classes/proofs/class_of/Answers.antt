-- `classes::class_of` meets its contract. Assumes nothing.
use Rattle.classes.proofs.Keys.{class_found}
use native.Mathlib.Omega.{arith}
use Rattle.classes.proofs.class_of.Goals as goal

pub class_at-requires : goal.class_at-requires
class_at-requires c = omega (arith, c.cell-row.ensures.0, c.requires.1.row_in)

pub returns : goal.returns
returns c = class_found _ _ _ _ c.cell-row.ensures.0 c.requires.1 c.class_at.ensures
