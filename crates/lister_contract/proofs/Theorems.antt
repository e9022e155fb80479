-- What a reader of the listing may rely on (demand 3): the list is exactly the pairs of records with equal meanings, the count
-- is theirs, and how texts are cut, names are numbered or lengths are padded does not count. Assumes nothing.
use Prim.Native.Nat.{ℕ, zero, suc, ◌+◌, ◌*◌, ◌≤◌, ◌<◌}
use mathlib.Core.Path.{◌≡◌, refl, sym, ap, ◌∙◌}
use mathlib.Core.Logic.{◌⊎◌, inl, inr, ◌↔◌, ⊎_elim}
use mathlib.Core.Bool.{Bool, true, false, cond}
use mathlib.Core.List.{List, [], ◌∷◌, ◌++◌}
use native.Mathlib.Omega.{arith}
use lib.Dec.{ltb, eqb}
use lib.ListN.{length, get_or, get_elem?, take, drop}
use lib.Seq.{take_at}
use borrow.Author.Tests.{eqb-true, ltb-true, ltb-false, le-ltb}
use Rattle.sequences.specs.Lists.{overlay, In, here, there}
use Rattle.sequences.proofs.Tests.{tests}
use Rattle.sequences.proofs.Members.{in_first}
use Rattle.number.specs.Number.{front, number_at}
use Rattle.token.specs.Tokens.{accepted, no_pairs, class_of, shape_of}
use Rattle.rules.specs.Rules.{lawful}
use Rattle.value.specs.Fields.{needed, text_at, extent_at, field_at}
use Rattle.fields.specs.Fields.{name_at, qname_at, header_at}
use Rattle.scan.specs.Steps.{event_due, text_step, name_step, qname_step, extension_step, pi_step, element_step, attribute_step, value_step, nest_step, class_step, token_step, declared_step, end_step, step_at}
use Rattle.scan.specs.declared.Room.{Room}
use Rattle.machine.specs.Machine.{Result, run, reading, name_text, event_of, events_of, full}
use Rattle.machine.specs.Examples.{H}
use Rattle.plan.specs.Text.{kind_of, shown, text_of}
use Rattle.grammar.specs.Grammar.{Rows, Derives, events_derived}
use Rattle.grammar.proofs.Exact.{derived_accepts, events_agree}
use Rattle.meaning.specs.Meaning.{declares, named_symbols, plain_symbols, depth_after, pieces, meanings, same_symbol, same_meaning, Pair, pair, equal_to, pairs_from, pairs_of, flat_pairs, Ascending, Once, Recut}
use Rattle.meaning.proofs.Same.{same_meaning_lem}
use Rattle.meaning.proofs.Exact.{exact, ordered, once}
use Rattle.meaning.proofs.Recut.{recut_meanings}
use Rattle.lister_contract.specs.declared.Answer.{Answer}
use Rattle.lister_contract.specs.Contract.{answer, meanings_in, pairs_in, pair_room, pairs_judged, list_answer, list_of, Lists, Stands, Alike}

-- ---- the numbers of a list

stands_in : (ps : List Pair) (t : List ℕ) (i j : ℕ) (k : ℕ) → k < length ps → get_or (flat_pairs ps ++ t) (2 * k) 0 ≡ i → get_or (flat_pairs ps ++ t) (2 * k + 1) 0 ≡ j
    → In (pair i j) ps
stands_in [] t i j k l e f = absurd (let q : ⊥ = omega arith in q)
stands_in (p ∷ ps) t i j zero l e f =
    let x : p.earlier ≡ i = e in let y : p.later ≡ j = f in let z : pair i j ≡ pair p.earlier p.later = cc in in_first z
stands_in (p ∷ ps) t i j (suc k) l e f =
    let u : 2 * suc k + 1 ≡ suc (suc (2 * k + 1)) = omega arith in
    let v : 2 * suc k ≡ suc (suc (2 * k)) = omega arith in
    there (stands_in ps t i j k (omega arith) (rw v at e) (rw u at f))

in_stands : (t : List ℕ) (i j : ℕ) {ps : List Pair} → In (pair i j) ps → Stands (flat_pairs ps ++ t) (length ps) i j
in_stands t i j here = record { row = 0; low = omega arith; earlier = refl; later = refl }
in_stands t i j (there {l = ps} w) =
    let s = in_stands t i j w in
    let k = s.row in
    let u : 2 * suc k + 1 ≡ suc (suc (2 * k + 1)) = omega arith in
    let v : 2 * suc k ≡ suc (suc (2 * k)) = omega arith in
    record { row = suc k; low = omega (arith, s.low); earlier = rw v s.earlier; later = rw u s.later }

flat_length : (ps : List Pair) → length (flat_pairs ps) ≡ 2 * length ps
flat_length [] = refl
flat_length (p ∷ ps) = let h = flat_length ps in omega arith

below : (m n : ℕ) → (m < n) ⊎ (n ≤ m)
below m n = go (ltb m n) refl
  where
    go : (t : Bool) → ltb m n ≡ t → (m < n) ⊎ (n ≤ m)
    go true e = inl (ltb-true m n e)
    go false e = inr (ltb-false m n e)

-- ---- one document

-- 0 means that reading has accepted the document and that the room holds the pairs
judged_number : (place records pairs room : ℕ) → (pairs_judged place records pairs room).number ≡ 0 → pairs ≤ room
unfolding pairs_judged
judged_number place records pairs room e = go (ltb room pairs) refl e
  where
    go : (t : Bool) → ltb room pairs ≡ t → (cond t (answer no_pairs pairs records pairs) (answer accepted place records pairs)).number ≡ 0 → pairs ≤ room
    go true h f = absurd (let q : ⊥ = omega arith in q)
    go false h f = ltb-false _ _ h

pub accepted_both : (doc : List ℕ) (r : Result) (room : ℕ) → (list_answer doc r room).number ≡ 0 → (r.number ≡ 0) × (length (pairs_in doc r) ≤ room)
unfolding list_answer
accepted_both doc r room e = go (eqb r.number accepted) refl e
  where
    go : (t : Bool) → eqb r.number accepted ≡ t
        → (cond t (pairs_judged r.place (length (meanings_in doc r)) (length (pairs_in doc r)) room) (answer r.number r.place 0 0)).number ≡ 0
        → (r.number ≡ 0) × (length (pairs_in doc r) ≤ room)
    go true h f = (eqb-true _ _ h, judged_number r.place (length (meanings_in doc r)) (length (pairs_in doc r)) room f)
    go false h f = absurd (let i = rw f at h in let z : ◌≡◌ {A = ℕ} 0 1 = cc in let q : ⊥ = omega arith in q)

module _ (doc : List ℕ) (r : Result) where
  -- demand 3: the pairs stand in the order of the earlier record, then of the later
  pub listed_ordered : Ascending (pairs_in doc r)
  unfolding pairs_in
  listed_ordered = ordered same_meaning same_meaning_lem (meanings_in doc r)

  -- demand 3: each pair stands once
  pub listed_once : Once (pairs_in doc r)
  unfolding pairs_in
  listed_once = once same_meaning same_meaning_lem (meanings_in doc r)

-- the parts of the answer to an accepted document, for any room
module _ (doc : List ℕ) (r : Result) (room : ℕ) (ok : r.number ≡ 0) where
  answered : list_answer doc r room ≡ pairs_judged r.place (length (meanings_in doc r)) (length (pairs_in doc r)) room
  unfolding list_answer
  answered = rw ok

  answer_small : room < length (pairs_in doc r) → list_answer doc r room ≡ answer no_pairs (length (pairs_in doc r)) (length (meanings_in doc r)) (length (pairs_in doc r))
  unfolding pairs_judged
  answer_small l = answered ∙ simp (tests, l)

  answer_held : length (pairs_in doc r) ≤ room → list_answer doc r room ≡ answer accepted r.place (length (meanings_in doc r)) (length (pairs_in doc r))
  unfolding pairs_judged
  answer_held l = answered ∙ simp (tests, l)

  pub answer_counts : ((list_answer doc r room).records ≡ length (meanings_in doc r)) × ((list_answer doc r room).pairs ≡ length (pairs_in doc r))
  answer_counts = ⊎_elim
      (λ (l : room < length (pairs_in doc r)). let e = answer_small l in (ap (λ (x : Answer). x.records) e, ap (λ (x : Answer). x.pairs) e))
      (λ (l : length (pairs_in doc r) ≤ room). let e = answer_held l in (ap (λ (x : Answer). x.records) e, ap (λ (x : Answer). x.pairs) e))
      (below room (length (pairs_in doc r)))

module _ {doc : List ℕ} {r : Result} {names qnames events list names' qnames' events' list' : List ℕ} {a : Answer}
    (h : Lists doc r names qnames events list names' qnames' events' list' a) where
  -- demand 3: the count given, under 11 too, is the number of all pairs with equal meaning, and the records are all records
  pub count_true : r.number ≡ 0 → (a.records ≡ length (meanings_in doc r)) × (a.pairs ≡ length (pairs_in doc r))
  count_true ok = rw h.answer_is (answer_counts doc r (pair_room list) ok)

  -- demand 3: the pairs counted, under 11 too: two records make one exactly where the earlier comes first and their meanings are equal
  pub listed_exactly : r.number ≡ 0 → (i j : ℕ)
      → In (pair i j) (pairs_in doc r) ↔ ((i < j) × (j < a.records) × (get_elem? (meanings_in doc r) i ≡ get_elem? (meanings_in doc r) j))
  unfolding pairs_in
  listed_exactly ok i j = rw (count_true ok).0 (exact same_meaning same_meaning_lem (meanings_in doc r) (pair i j))

  -- demand 3: 11 is the answer exactly where the list has no room for the pairs
  pub small_exactly : r.number ≡ 0 → (a.number ≡ no_pairs) ↔ (pair_room list < length (pairs_in doc r))
  small_exactly ok = (
    λ e. ⊎_elim (λ l. l)
        (λ (l : length (pairs_in doc r) ≤ pair_room list).
        let f = ap (λ (x : Answer). x.number) (h.answer_is ∙ answer_held doc r (pair_room list) ok l) in
        absurd (let q : ⊥ = omega arith in q))
        (below (pair_room list) (length (pairs_in doc r))),
    λ l. ap (λ (x : Answer). x.number) (h.answer_is ∙ answer_small doc r (pair_room list) ok l),
  )

  -- demand 3: its count is the pairs in full, and the list is not touched
  pub small_count : r.number ≡ 0 → a.number ≡ no_pairs → (a.place ≡ length (pairs_in doc r)) × (list' ≡ list)
  unfolding list_of
  small_count ok e =
      let l = (small_exactly ok).0 e in
      let s = answer_small doc r (pair_room list) ok l in
      (ap (λ (x : Answer). x.place) (h.answer_is ∙ s), h.list_is ∙ rw s)

  module _ (ok : a.number ≡ 0) where
    both_held : (r.number ≡ 0) × (length (pairs_in doc r) ≤ pair_room list)
    both_held = accepted_both doc r (pair_room list) (ap (λ (x : Answer). x.number) (sym h.answer_is) ∙ ok)

    -- demand 3: under 0 the list holds the pairs, and what stands past them stays
    pub listed_there : list' ≡ overlay (flat_pairs (pairs_in doc r)) list
    unfolding list_of
    listed_there = h.list_is ∙ rw (answer_held doc r (pair_room list) both_held.0 both_held.1)

    -- demand 3: two numbers stand in the list exactly where both are records, the earlier first, and their meanings are equal
    pub written_exactly : (i j : ℕ)
        → Stands list' a.pairs i j ↔ ((i < j) × (j < a.records) × (get_elem? (meanings_in doc r) i ≡ get_elem? (meanings_in doc r) j))
    written_exactly i j = (
      λ s. (listed_exactly both_held.0 i j).0 (let t = rw ((count_true both_held.0).1, listed_there) at s in stands_in (pairs_in doc r) _ i j t.row t.low t.earlier t.later),
      λ e. rw ((count_true both_held.0).1, listed_there) (in_stands (drop (length (flat_pairs (pairs_in doc r))) list) i j ((listed_exactly both_held.0 i j).1 e)),
    )

-- ---- two documents

-- the list after an accepted document depends on the pairs alone
unfoldable laid : List Pair → List ℕ → List ℕ
laid ps list = cond (ltb (pair_room list) (length ps)) list (overlay (flat_pairs ps) list)

list_laid : (doc : List ℕ) (r : Result) (list : List ℕ) → r.number ≡ 0 → list_of doc r list ≡ laid (pairs_in doc r) list
unfolding list_of laid
list_laid doc r list ok = ⊎_elim
    (λ (l : pair_room list < length (pairs_in doc r)). rw (answer_small doc r (pair_room list) ok l) (simp (tests, l)))
    (λ (l : length (pairs_in doc r) ≤ pair_room list). rw (answer_held doc r (pair_room list) ok l) (simp (tests, l)))
    (below (pair_room list) (length (pairs_in doc r)))

laid_front : (ps : List Pair) (list : List ℕ) → length ps ≤ pair_room list → take (2 * length ps) (laid ps list) ≡ flat_pairs ps
unfolding laid
laid_front ps list l = rw (le-ltb (pair_room list) (length ps) l) (take_at (flat_pairs ps) (drop (length (flat_pairs ps)) list) (2 * length ps) (flat_length ps))

module _ {d e : List ℕ} {r s : Result} {n q v l n' q' v' l' m p w k m' p' w' k' : List ℕ} {a b : Answer}
    (x : Lists d r n q v l n' q' v' l' a) (y : Lists e s m p w k m' p' w' k' b) (i : r.number ≡ 0) (j : s.number ≡ 0) where
  -- the numbers and the list depend on the meanings alone
  same_meanings : meanings_in d r ≡ meanings_in e s → Alike l l' k k' a b
  unfolding pairs_in
  same_meanings f =
      let g : pairs_in d r ≡ pairs_in e s = ap (pairs_of same_meaning) f in
      let t = count_true x i in
      let u = count_true y j in
      record {
        records = t.0 ∙ ap length f ∙ sym u.0;
        pairs = t.1 ∙ ap length g ∙ sym u.1;
        lists = λ z. x.list_is ∙ list_laid d r l i ∙ rw (g, z) (sym (y.list_is ∙ list_laid e s k j));
        fronts = λ c o.
            rw (x.list_is ∙ list_laid d r l i, y.list_is ∙ list_laid e s k j, t.1, u.1)
            (laid_front (pairs_in d r) l (omega (arith, t.1)) ∙ ap flat_pairs g ∙ sym (laid_front (pairs_in e s) k (omega (arith, u.1))));
      }

  -- demand 3: two accepted documents with the same events, except for how texts are cut, have the same records, pairs and lists
  pub recut_lists : Recut (events_of d r.final) (events_of e s.final) → Alike l l' k k' a b
  unfolding meanings_in
  recut_lists c = same_meanings (recut_meanings c)

  -- demand 3: so have two with equal events, however their names are numbered and their lengths are padded
  pub same_events_lists : events_of d r.final ≡ events_of e s.final → Alike l l' k k' a b
  unfolding meanings_in
  same_events_lists c = same_meanings (ap meanings c)

-- ---- derivations

module _ {doc : List ℕ} {room : Room} {version : ℕ} {rows : Rows} (g : Derives doc room version rows) where
  -- demand 3: a derived document is accepted, and its records and their meanings are those of the derivation's events
  pub derived_meanings : ((reading doc room).number ≡ 0) × (meanings_in doc (reading doc room) ≡ meanings (events_derived doc rows))
  unfolding meanings_in
  derived_meanings = ((derived_accepts doc room g).number_is, ap meanings (events_agree doc room version rows g))

module _ {d e : List ℕ} {room more : Room} {version v : ℕ} {rows others : Rows} {n q u l n' q' u' l' m p w k m' p' w' k' : List ℕ} {a b : Answer}
    (x : Lists d (reading d room) n q u l n' q' u' l' a) (y : Lists e (reading e more) m p w k m' p' w' k' b)
    (f : Derives d room version rows) (g : Derives e more v others) where
  -- demand 3: two derived documents with the same events, except for how texts are cut, have the same records, pairs and lists
  pub recut_derived : Recut (events_derived d rows) (events_derived e others) → Alike l l' k k' a b
  recut_derived c =
      same_meanings x y (derived_meanings f).0 (derived_meanings g).0
      ((derived_meanings f).1 ∙ recut_meanings c ∙ sym (derived_meanings g).1)

-- ---- the listing case

-- 01, "Extracts worked by hand", the listing program's document: three records, the first and the last equal
abbrev document : List ℕ
document =
    H
    ++ (0xF0 ∷ 0x01 ∷ 0x70 ∷ 0x00 ∷ 0xEF ∷ 0x00 ∷ 0x00 ∷ 0x01
    ∷ 0xF8 ∷ 0x01 ∷ 0xF6 ∷ 0x01 ∷ 0x11 ∷ 0x01 ∷ 0x31 ∷ 0x00 ∷ 0x11 ∷ 0x01 ∷ 0x62 ∷ 0x00 ∷ 0xF5 ∷ 0xF7
    ∷ 0xF8 ∷ 0x01 ∷ 0xF6 ∷ 0x01 ∷ 0x11 ∷ 0x01 ∷ 0x31 ∷ 0x00 ∷ 0xF5 ∷ 0xF7
    ∷ 0xF8 ∷ 0x01 ∷ 0xF6 ∷ 0x01 ∷ 0x11 ∷ 0x02 ∷ 0x31 ∷ 0x00 ∷ 0x62 ∷ 0x00 ∷ 0xF5 ∷ 0xF7
    ∷ [])

-- a header alone has no record; the document has one pair, which a list with room holds and a list without does not
pub listing_case :
    (list_answer H (reading H full) 0 ≡ answer accepted 5 0 0) × (list_answer document (reading document full) 0 ≡ answer no_pairs 1 3 1)
    × (list_answer document (reading document full) 1 ≡ answer accepted 49 3 1)
    × (list_of document (reading document full) (7 ∷ []) ≡ 7 ∷ []) × (list_of document (reading document full) (7 ∷ 8 ∷ 9 ∷ []) ≡ 0 ∷ 2 ∷ 9 ∷ [])
unfolding front number_at class_of shape_of lawful needed text_at extent_at field_at name_at qname_at header_at event_due text_step name_step qname_step extension_step pi_step element_step attribute_step value_step nest_step class_step token_step declared_step end_step step_at run reading name_text event_of events_of kind_of shown text_of declares named_symbols plain_symbols depth_after pieces meanings same_symbol equal_to pairs_from pairs_of meanings_in pairs_in pairs_judged list_answer list_of
listing_case = (refl, refl, refl, refl, refl)

-- the records of an accepted document do not depend on the room for pairs
any_room : (doc : List ℕ) (r : Result) (room more : ℕ) → (list_answer doc r room).number ≡ 0 → (list_answer doc r more).records ≡ (list_answer doc r room).records
any_room doc r room more e =
    let ok = (accepted_both doc r room e).0 in
    (answer_counts doc r more ok).0 ∙ sym (answer_counts doc r room ok).0

-- demand 3: a lister with one answer for all documents breaks the contract, whatever its room for pairs
pub not_constant : (a : Answer) (room : ℕ) → ((doc : List ℕ) → list_answer doc (reading doc full) room ≡ a) → ⊥
not_constant a room f =
    let c = listing_case in
    let x = any_room H (reading H full) 0 room (ap (λ (b : Answer). b.number) c.0) ∙ ap (λ (b : Answer). b.records) c.0 in
    let y = any_room document (reading document full) 1 room (ap (λ (b : Answer). b.number) c.2) ∙ ap (λ (b : Answer). b.records) c.2 in
    let z = ap (λ (b : Answer). b.records) (f H ∙ sym (f document)) in
    omega arith
