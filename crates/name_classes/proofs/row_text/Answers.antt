-- `name_classes::row_text` meets its contract. Assumes nothing.
use Rattle.name_classes.proofs.Names.{text_part}
use native.Mathlib.Omega.{arith}
use Rattle.name_classes.proofs.row_text.Goals as goal

pub slice_bounds-result-end : goal.slice_bounds-result-end
slice_bounds-result-end c =
    omega (arith, c.requires.0.inside c.args.k c.requires.1, c.cell-from.ensures.0, c.cell.ensures.0)

pub returns : goal.returns
returns c = text_part _ _ _ _ _ c.cell-from.ensures.0 c.cell.ensures.0
