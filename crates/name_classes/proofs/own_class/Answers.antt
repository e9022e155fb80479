-- `name_classes::own_class` meets its contract. Assumes nothing.
use borrow.Author.Tests.{ne_eqb}
use mathlib.Core.Path.{sym, ◌∙◌}
use Rattle.name_classes.proofs.own_class.Goals as goal

pub returns-then-cell-eq0 : goal.returns-then-cell-eq0
returns-then-cell-eq0 c = rw (sym c.cell.ensures.0 ∙ c.if-cell-eq0.true)

pub returns : goal.returns
returns c = rw (← c.cell.ensures.0, ne_eqb _ _ c.if-cell-eq0.false)
