-- `name_classes::name_classes` meets its contract. The invariant is `Made`: the rows passed are in the tree, and have their hashes and
use Rattle.name_classes.proofs.Names.{Made}
use Rattle.name_classes.proofs.name_classes.Given as goal

abbrev pub invariant-loop-r : goal.invariant-loop-r
invariant-loop-r l = Made l.doc l.names l.count l.classes l.tree l.hashes l.r-counter
