-- `twins::Parts::part` meets its contract. Assumes nothing.
use Rattle.twins.proofs.Ends.{part_within}
use native.Mathlib.Omega.{arith}
use Rattle.twins.proofs.Parts.part.Goals as goal

pub offset_bounds-self-a : goal.offset_bounds-self-a
offset_bounds-self-a c = omega (arith, part_within c.args.self.now.cut c.args.k c.requires)

pub slice_bounds-result-count : goal.slice_bounds-result-count
slice_bounds-result-count c = omega (arith, part_within c.args.self.now.cut c.args.k c.requires)

pub slice_bounds-result-start : goal.slice_bounds-result-start
slice_bounds-result-start c = omega (arith, part_within c.args.self.now.cut c.args.k c.requires)

pub slice_bounds-result-end : goal.slice_bounds-result-end
slice_bounds-result-end c = omega (arith, part_within c.args.self.now.cut c.args.k c.requires)
