-- `marks::Tables::declares_at` meets its contract. Assumes nothing.
use Rattle.marks.proofs.Names.{declares_uri, declares_local, declares_none, prefix_there, declares_prefix}
use native.Mathlib.Omega.{arith}
use Rattle.marks.proofs.Tables.declares_at.Goals as goal

pub returns-then-class_of-ne0 : goal.returns-then-class_of-ne0
returns-then-class_of-ne0 c = declares_uri c.requires _ c.class_of.ensures.0 c.if-class_of-ne0.true

pub returns-then-class_of-ne0-2 : goal.returns-then-class_of-ne0-2
returns-then-class_of-ne0-2 c = declares_local c.requires _ c.class_of.ensures.0 c.if-class_of-ne0.false _ c.class_of-2.ensures.0 c.if-class_of-ne0-2.true

pub returns-then-prefix-eq0 : goal.returns-then-prefix-eq0
returns-then-prefix-eq0 c = declares_none c.requires _ c.class_of.ensures.0 c.if-class_of-ne0.false _ c.class_of-2.ensures.0 c.if-class_of-ne0-2.false _ c.cell-prefix.ensures.0 c.if-prefix-eq0.true

pub slice_bounds-is_xmlns-end : goal.slice_bounds-is_xmlns-end
slice_bounds-is_xmlns-end c = omega (arith, (prefix_there c.requires _ c.class_of.ensures.0 c.if-class_of-ne0.false _ c.class_of-2.ensures.0 c.if-class_of-ne0-2.false _ c.cell-prefix.ensures.0 c.if-prefix-eq0.false).1, c.cell-place.ensures.0, c.cell-units.ensures.0)

pub returns : goal.returns
returns c =
    declares_prefix c.requires _ c.class_of.ensures.0 c.if-class_of-ne0.false _ c.class_of-2.ensures.0 c.if-class_of-ne0-2.false _ c.cell-prefix.ensures.0 c.if-prefix-eq0.false _ _ c.cell-place.ensures.0 c.cell-units.ensures.0 _ c.is_xmlns.ensures
