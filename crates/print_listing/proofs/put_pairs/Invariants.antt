-- `print_listing::put_pairs` meets its contract. The loop's invariant is `LinesSoFar`. Assumes nothing.
use Rattle.print_listing.proofs.Laws.{LinesSoFar}
use Rattle.print_listing.proofs.put_pairs.Given as goal

abbrev pub invariant-loop-k : goal.invariant-loop-k
invariant-loop-k l = LinesSoFar l.pairs l.initial.text l.text l.count l.at l.k
