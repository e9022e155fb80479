-- `numeral::put_all` meets its contract. The loop's invariant is `WholeSoFar`. Assumes nothing.
use Rattle.numeral.proofs.Whole.{WholeSoFar}
use Rattle.numeral.proofs.put_all.Given as goal

abbrev pub invariant-loop-rest : goal.invariant-loop-rest
invariant-loop-rest g l = g.N.Decimal.Fits l.rest × WholeSoFar (g.N.Decimal.value l.initial.rest) (g.N.Decimal.value l.rest) l.initial.small l.small

abbrev pub decreases-loop-rest : goal.decreases-loop-rest
decreases-loop-rest g l = g.N.Decimal.value l.rest
