-- Serves the code. Listing from tables that a reading has filled: what is then listed.
use Rattle.std.specs.Prelude.{ℕ, ◌≡◌, cond, List, ltb, length}
use Rattle.sequences.specs.Lists.{overlay}
use Rattle.machine.specs.declared.Answer as reader-answer
use Rattle.machine.specs.Tables.{events_in}
use Rattle.meaning.specs.Meaning.{Symbol, meanings, same_meaning, Pair, pairs_of, flat_pairs}
use Rattle.lister_contract.specs.declared.Answer.{Answer}
use Rattle.lister_contract.specs.Contract.{pair_room, pairs_judged}

-- the meanings of the records of the tables, and the pairs of equal ones
unfoldable pub table_meanings : List ℕ → List ℕ → List ℕ → List ℕ → reader-answer.Answer → List (List Symbol)
table_meanings doc names qnames events a = meanings (events_in doc names qnames events a.names a.qnames a.events)

unfoldable pub table_pairs : List ℕ → List ℕ → List ℕ → List ℕ → reader-answer.Answer → List Pair
table_pairs doc names qnames events a = pairs_of same_meaning (table_meanings doc names qnames events a)

-- 11 and a list that is not touched, or 0 and the pairs laid over the list
pub record TablesListed (doc names qnames events : List ℕ) (a : reader-answer.Answer) (list list' : List ℕ) (r : Answer) : Type 0 where
  pub answer_is : r ≡ pairs_judged a.place (length (table_meanings doc names qnames events a)) (length (table_pairs doc names qnames events a)) (pair_room list)
  pub list_is : list' ≡ cond (ltb (pair_room list) (length (table_pairs doc names qnames events a))) list (overlay (flat_pairs (table_pairs doc names qnames events a)) list)
