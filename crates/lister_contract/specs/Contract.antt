-- What listing promises: its answer, the three tables as reading leaves them, and the list of pairs, for any document, tables
-- and list (01, "Answer numbers").
use Rattle.std.specs.Prelude.{ℕ, ◌+◌, ◌*◌, ◌/◌, ◌≤◌, ◌<◌, ◌≡◌, cond, List, ltb, eqb, length, get_or, take}
use Rattle.sequences.specs.Lists.{overlay}
use Rattle.token.specs.Tokens.{accepted, no_pairs}
use Rattle.machine.specs.Machine.{flat_names, flat_qnames, flat_events, Result, events_of}
use Rattle.meaning.specs.Meaning.{Symbol, meanings, same_meaning, Pair, pairs_of, flat_pairs}
use Rattle.lister_contract.specs.declared.Answer.{Answer}

abbrev pub answer : ℕ → ℕ → ℕ → ℕ → Answer
answer number place records pairs = record { number = number; place = place; records = records; pairs = pairs }

-- the meanings of the records of a document that was read so, and their pairs
unfoldable pub meanings_in : List ℕ → Result → List (List Symbol)
meanings_in doc r = meanings (events_of doc r.final)

unfoldable pub pairs_in : List ℕ → Result → List Pair
pairs_in doc r = pairs_of same_meaning (meanings_in doc r)

-- the whole pairs that a list holds, two numbers each
abbrev pub pair_room : List ℕ → ℕ
pair_room list = length list / 2

-- an accepted document: 11 with the pairs in full for its count where the list is too small, else 0 with reading's place
unfoldable pub pairs_judged : ℕ → ℕ → ℕ → ℕ → Answer
pairs_judged place records pairs room = cond (ltb room pairs) (answer no_pairs pairs records pairs) (answer accepted place records pairs)

-- 1 to 9 are reading's
unfoldable pub list_answer : List ℕ → Result → ℕ → Answer
list_answer doc r room =
    cond (eqb r.number accepted) (pairs_judged r.place (length (meanings_in doc r)) (length (pairs_in doc r)) room) (answer r.number r.place 0 0)

-- the list holds the pairs, laid over what stood there; a refused list is not touched
unfoldable pub list_of : List ℕ → Result → List ℕ → List ℕ
list_of doc r list = cond (eqb (list_answer doc r (pair_room list)).number accepted) (overlay (flat_pairs (pairs_in doc r)) list) list

pub record Lists (doc : List ℕ) (r : Result) (names qnames events list names' qnames' events' list' : List ℕ) (a : Answer) : Type 0 where
  pub answer_is : a ≡ list_answer doc r (pair_room list)
  pub names_are : names' ≡ overlay (flat_names r.final.names) names
  pub qnames_are : qnames' ≡ overlay (flat_qnames r.final.qnames) qnames
  pub events_are : events' ≡ overlay (flat_events r.final.events) events
  pub list_is : list' ≡ list_of doc r list

-- ---- what is said of lists

-- among the first n pairs of numbers of a list stands i, j
pub record Stands (list : List ℕ) (n i j : ℕ) : Type 0 where
  pub row : ℕ
  pub low : row < n
  pub earlier : get_or list (2 * row) 0 ≡ i
  pub later : get_or list (2 * row + 1) 0 ≡ j

-- two listings: the same records and pairs; the same list after the same list; and the same pairs in any lists that have the room
pub record Alike (list list' more more' : List ℕ) (a b : Answer) : Type 0 where
  pub records : a.records ≡ b.records
  pub pairs : a.pairs ≡ b.pairs
  pub lists : list ≡ more → list' ≡ more'
  pub fronts : a.pairs ≤ pair_room list → b.pairs ≤ pair_room more → take (2 * a.pairs) list' ≡ take (2 * b.pairs) more'
