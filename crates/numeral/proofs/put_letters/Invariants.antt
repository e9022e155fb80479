-- `numeral::put_letters` meets its contract. The letters are put from the last; `rest` are left. Assumes nothing.
use Rattle.numeral.proofs.Stores.{Lettered}
use Rattle.numeral.proofs.put_letters.Given as goal

abbrev pub invariant-loop-letter : goal.invariant-loop-letter
invariant-loop-letter l = Lettered l.letters l.letter-iterator.iter.rest.now l.initial.small l.small
