-- What stands at the end of the text is what the program prints. Assumes nothing.
use Prim.Native.Nat.{ℕ, ◌≤◌}
use mathlib.Core.Path.{◌≡◌, refl, ◌∙◌, ap}
use mathlib.Core.List.{List, [], ◌∷◌, ◌++◌}
use lib.ListN.{length, take, drop}
use Rattle.sequences.specs.Lists.{overlay}
use Rattle.sequences.proofs.Tests.{tests}
use Rattle.machine.specs.Machine.{reading, room_in, full}
use Rattle.meaning.specs.Meaning.{Pair, flat_pairs}
use Rattle.lister_contract.specs.declared.Answer.{Answer}
use Rattle.lister_contract.specs.Contract.{pairs_in, pair_room, list_of, Lists}
use Rattle.lister_contract.proofs.Theorems.{accepted_both, answer_counts}
use Rattle.print_lines.specs.Lines.{PutBefore, line, refused_word, at_word}
use Rattle.print_lines.proofs.Laws.{both_put, whole_put}
use Rattle.print_listing.specs.Printed.{listed_pairs, records_word, pairs_word, pair_lines, answer_lines, printed, pair_rows, FullListed}
use Rattle.machine.specs.Tables.{name_table, qname_table, event_table}
use Rattle.print_listing.specs.Room.{pair_numbers}

-- the pairs of a list of pairs' numbers, whatever follows them
pub rows_back : (ps : List Pair) (t : List ℕ) → pair_rows (length ps) (flat_pairs ps ++ t) ≡ ps
rows_back [] t = refl
rows_back (p ∷ ps) t = ap (λ (l : List Pair). p ∷ l) (rows_back ps t)

-- tables of these lengths have the full bounds, and the list 8,192 pairs
pub full_listed : {doc names qnames events list names' qnames' events' list' : List ℕ} {a : Answer}
    → length names ≡ name_table → length qnames ≡ qname_table → length events ≡ event_table → length list ≡ pair_numbers
    → Lists doc (reading doc (room_in (length names) (length qnames) (length events))) names qnames events list names' qnames' events' list' a
    → FullListed doc list list' a
full_listed {doc} {names} {qnames} {events} {list} x y z w h =
    let e : room_in (length names) (length qnames) (length events) ≡ full = rw (x, y, z) refl in
    let p : pair_room list ≡ listed_pairs = rw w refl in
    record { answer_is = h.answer_is ∙ rw (e, p); list_is = h.list_is ∙ rw e }

module _ {doc list list' : List ℕ} {a : Answer} (f : FullListed doc list list' a) where
  -- a refusal: one line
  pub refusal_printed : (a.number ≡ 0 → ⊥) → {before after : List ℕ} {at : ℕ}
      → PutBefore before after (length before) at (line refused_word a.number at_word a.place) → after ≡ take at before ++ printed doc
  unfolding printed answer_lines
  refusal_printed n p = whole_put refl p (rw (← f.answer_is) (simp (tests, n)))

  module _ (ok : a.number ≡ 0) (w : length list ≡ pair_numbers) where
    abbrev ps : List Pair
    ps = pairs_in doc (reading doc full)

    both : ((reading doc full).number ≡ 0) × (length ps ≤ 8192)
    both = accepted_both doc (reading doc full) 8192 (rw (← f.answer_is) ok)

    pub pairs_few : a.pairs ≤ 8192
    pairs_few = rw (f.answer_is, (answer_counts doc (reading doc full) 8192 both.0).1) both.1

    pub pairs_there : list' ≡ overlay (flat_pairs ps) list
    unfolding list_of
    pairs_there =
        let p : pair_room list ≡ listed_pairs = rw w refl in
        f.list_is ∙ rw (p, ← f.answer_is) (simp (tests, ok))

    rows_are : pair_rows a.pairs list' ≡ ps
    rows_are =
        let c : a.pairs ≡ length ps = rw f.answer_is (answer_counts doc (reading doc full) 8192 both.0).1 in
        rw (c, pairs_there) (rows_back ps (drop (length (flat_pairs ps)) list))

    -- an accepted document: the counts, then the pairs
    pub pairs_printed : {t t₁ t₂ : List ℕ} {mid at : ℕ} → PutBefore t t₁ (length t) mid (pair_lines (pair_rows a.pairs list'))
        → PutBefore t₁ t₂ mid at (line records_word a.records pairs_word a.pairs) → t₂ ≡ take at t ++ printed doc
    unfolding printed answer_lines
    pairs_printed p q = whole_put refl (both_put p q) (rw (rows_are, ← f.answer_is) (simp (tests, ok)))
