-- `name_classes::hash_of` meets its contract. The invariant is `Hashing`: the hash of the units passed, gone on with over the rest, is
use Rattle.name_classes.proofs.Texts.{Hashing}
use Rattle.name_classes.proofs.hash_of.Given as goal

abbrev pub invariant-loop-k : goal.invariant-loop-k
invariant-loop-k l = Hashing l.text l.h l.k
