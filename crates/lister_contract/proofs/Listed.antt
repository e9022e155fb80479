-- The ways out of listing: what reading, the codes of the records and the count of pairs say together is what listing
-- promises. Assumes nothing.
use Prim.Native.Nat.{ℕ, ◌*◌, ◌/◌, ◌≤◌, ◌<◌}
use mathlib.Core.Path.{◌≡◌, refl, sym, ap, ◌∙◌}
use mathlib.Core.Bool.{Bool, true, false, cond}
use mathlib.Core.List.{List}
use native.Mathlib.Omega.{arith}
use lib.Dec.{ltb, eqb}
use lib.ListN.{length}
use Rattle.sequences.specs.Lists.{overlay, Bytes, same}
use Rattle.sequences.proofs.Tests.{tests}
use Rattle.token.specs.Tokens.{accepted, no_pairs}
use Rattle.machine.specs.Machine.{Result, Reads}
use Rattle.machine.specs.declared.Answer as reader-answer
use Rattle.meaning.specs.Meaning.{same_meaning, meanings, pairs_of, flat_pairs}
use Rattle.twins.specs.Parts.{parts_of}
use Rattle.render.specs.Render.{Renderable, Rendered}
use Rattle.lister_contract.specs.declared.Answer.{Answer}
use Rattle.lister_contract.specs.Contract.{answer, meanings_in, pairs_in, pairs_judged, list_answer, list_of, Lists}
use Rattle.lister_contract.specs.Tables.{table_meanings, table_pairs, TablesListed}
use Rattle.lister_contract.proofs.Coded.{same_pairs}
use Rattle.filled.proofs.Filled.{number_read, place_read, same_events}

-- a list with room for so many pairs has room for their numbers
pub numbers_fit : (size pairs n : ℕ) → pairs ≡ n → pairs ≤ size / 2 → 2 * n ≤ size
numbers_fit size pairs n e l = omega arith

-- ---- the ways out of listing from the tables

module _ (a : reader-answer.Answer) {doc names qnames events classes syms starts hashes : List ℕ} {n pairs : ℕ} (b : Bytes doc)
    (d : Renderable doc names qnames events classes a.names a.qnames a.events)
    (g : Rendered doc names qnames events a.names a.qnames a.events syms starts hashes n)
    (counted : pairs ≡ length (pairs_of same (parts_of syms starts n))) where
  records_are : n ≡ length (table_meanings doc names qnames events a)
  unfolding table_meanings
  records_are = g.number_is

  -- the pairs of equal parts are the pairs of equal records
  pairs_are : pairs_of same (parts_of syms starts n) ≡ table_pairs doc names qnames events a
  unfolding table_meanings table_pairs
  pairs_are = ap (pairs_of same) g.parts_are ∙ same_pairs d b

  count_is : pairs ≡ length (table_pairs doc names qnames events a)
  count_is = counted ∙ ap length pairs_are

  -- 11: the pairs in full for its count, and the list is not touched
  pub too_small : {list : List ℕ} → length list / 2 < pairs → {c : Answer} → c ≡ answer no_pairs pairs n pairs
      → TablesListed doc names qnames events a list list c
  unfolding pairs_judged
  too_small {list} l e =
      let m : length list / 2 < length (table_pairs doc names qnames events a) = omega (arith, count_is) in
      record { answer_is = e ∙ rw (records_are, count_is) (simp (tests, m)); list_is = simp (tests, m) }

  -- 0: the list holds the pairs
  pub written : {list list' : List ℕ} → pairs ≤ length list / 2 → list' ≡ overlay (flat_pairs (pairs_of same (parts_of syms starts n))) list
      → {c : Answer} → c ≡ answer accepted a.place n pairs → TablesListed doc names qnames events a list list' c
  unfolding pairs_judged
  written {list} l w e =
      let m : length (table_pairs doc names qnames events a) ≤ length list / 2 = omega (arith, count_is) in
      record { answer_is = e ∙ rw (records_are, count_is) (simp (tests, m)); list_is = w ∙ rw pairs_are (simp (tests, m)) }

-- ---- the ways out

module _ {doc : List ℕ} {r : Result} {names qnames events names' qnames' events' : List ℕ} {a : reader-answer.Answer}
    (h : Reads r names qnames events names' qnames' events' a) where
  -- 1 to 9: reading's answer, and the list is not touched
  pub refused : {list : List ℕ} → (a.number ≡ 0 → ⊥) → {b : Answer} → b ≡ answer a.number a.place 0 0
      → Lists doc r names qnames events list names' qnames' events' list b
  unfolding list_answer list_of
  refused n e =
      let i : r.number ≡ 0 → ⊥ = λ z. n (number_read h ∙ z) in
      record {
        answer_is = e ∙ rw (number_read h, place_read h) (simp (tests, i));
        names_are = h.names_are;
        qnames_are = h.qnames_are;
        events_are = h.events_are;
        list_is = simp (tests, i);
      }

-- accepted: what is listed from the tables
module _ (doc : List ℕ) {r : Result} {names qnames events names' qnames' events' : List ℕ} {a : reader-answer.Answer}
    (h : Reads r names qnames events names' qnames' events' a) (ok : a.number ≡ 0) where
  meanings_are : table_meanings doc names' qnames' events' a ≡ meanings_in doc r
  unfolding meanings_in table_meanings
  meanings_are = ap meanings (same_events h doc)

  table_pairs_fact : table_pairs doc names' qnames' events' a ≡ pairs_in doc r
  unfolding pairs_in table_pairs
  table_pairs_fact = ap (pairs_of same_meaning) meanings_are

  number_is : r.number ≡ 0
  number_is = sym (number_read h) ∙ ok

  pub listed : {list list' : List ℕ} {c : Answer} → TablesListed doc names' qnames' events' a list list' c
      → Lists doc r names qnames events list names' qnames' events' list' c
  unfolding pairs_judged list_answer list_of
  listed {list} t =
      let i = number_is in
      record {
        answer_is = t.answer_is ∙ rw (meanings_are, table_pairs_fact, place_read h) (simp (tests, i));
        names_are = h.names_are;
        qnames_are = h.qnames_are;
        events_are = h.events_are;
        list_is = t.list_is ∙ rw table_pairs_fact (simp (tests, i) (go (ltb (length list / 2) (length (pairs_in doc r)))));
      }
    where
      go : (b : Bool) → cond b list (overlay (flat_pairs (pairs_in doc r)) list)
          ≡ cond (eqb (cond b (answer no_pairs (length (pairs_in doc r)) (length (meanings_in doc r)) (length (pairs_in doc r))) (answer accepted r.place (length (meanings_in doc r)) (length (pairs_in doc r)))).number accepted)
          (overlay (flat_pairs (pairs_in doc r)) list) list
      go true = refl
      go false = refl
