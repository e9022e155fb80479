-- `numeral::put_last` meets its contract. The loop's invariant is `LastSoFar`. Assumes nothing.
use Rattle.numeral.proofs.Last.{LastSoFar}
use Rattle.numeral.proofs.put_last.Given as goal

abbrev pub invariant-loop : goal.invariant-loop
invariant-loop g l =
    LastSoFar (g.N.Decimal.value l.initial.v) (g.N.Decimal.value l.v) l.counter l.initial.small l.small × g.N.Decimal.Fits l.v
