-- `marks::Tables::mark_at` meets its contract. Assumes nothing.
use Rattle.marks.proofs.MarkLaws.{small_as, mark_more, mark_alone}
use mathlib.Core.Path.{sym, ◌∙◌}
use Rattle.marks.proofs.Tables.mark_at.Goals as goal

pub returns-then-declares_at : goal.returns-then-declares_at
returns-then-declares_at c =
    let p = c.pair_at.ensures in
    (mark_more _ _ _ _ _ _ _ p.0 (sym c.declares_at.ensures ∙ c.if-declares_at.true), small_as p.0 p.1)

pub returns : goal.returns
returns c =
    let p = c.pair_at.ensures in
    (mark_alone _ _ _ _ _ _ _ p.0 (sym c.declares_at.ensures ∙ c.if-declares_at.false), small_as p.0 p.1)
