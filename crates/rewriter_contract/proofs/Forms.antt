-- The ways out of rewriting: what reading, the classes and the walk say together is what rewriting promises. Assumes nothing.
use Prim.Native.Nat.{ℕ, ◌+◌, ◌*◌, ◌≤◌, ◌<◌}
use mathlib.Core.Path.{◌≡◌, sym, ◌∙◌, ap}
use mathlib.Core.Bool.{true, false}
use mathlib.Core.List.{List}
use native.Mathlib.Omega.{arith}
use lib.Dec.{eqb}
use lib.ListN.{length}
use borrow.Author.Tests.{lt-ltb, le-ltb, eq-eqb, ne_eqb}
use Rattle.sequences.specs.Arrays.{Front, Every}
use Rattle.token.specs.Tokens.{accepted, longest, name_width, qname_width}
use Rattle.machine.specs.Machine.{Result, reading, room_in, Reads}
use Rattle.machine.specs.Facts.{NameFits, QnameFits}
use Rattle.machine.specs.Tables.{name_rows_in, qname_rows_in, events_in}
use Rattle.machine.specs.declared.Answer as reader-answer
use Rattle.machine.proofs.Balance.{balanced}
use Rattle.form.specs.Canonical.{canonical}
use Rattle.form_output.specs.Output.{Put}
use Rattle.form_output.proofs.Laws.{put_whole}
use Rattle.classes.specs.Classes.{name_classes, qname_classes}
use Rattle.filled.proofs.Rooms.{version_low}
use Rattle.filled.proofs.Filled.{number_read, place_read, events_back, same_events, read_filled}
use Rattle.rewriter_contract.specs.declared.Answer.{Answer}
use Rattle.form_items.specs.Walk.{tables, Prepared}
use Rattle.rewriter_contract.specs.Contract.{answer, form_of, form_judged, FormWritten, rewrite_answer, output_of, Rewrites}

-- ---- writing a form

module _ (form : List ℕ) (place : ℕ) (out : List ℕ) {size : ℕ} (e : size ≡ 0 + length form) where
  pub form_long : {a : Answer} → longest < size → a ≡ answer 13 size 0 → FormWritten form place out out a
  unfolding form_judged
  form_long h i =
      let n : size ≡ length form = omega arith in
      let l = lt-ltb longest (length form) (omega arith) in
      record { answer_is = i ∙ rw (l, n); output_is = rw l }

  pub room_small : {a : Answer} → size ≤ longest → length out < size → a ≡ answer 10 size 0 → FormWritten form place out out a
  unfolding form_judged
  room_small h k i =
      let n : size ≡ length form = omega arith in
      let l = le-ltb longest (length form) (omega arith) in
      let m = lt-ltb (length out) (length form) (omega arith) in
      record { answer_is = i ∙ rw (l, m, n); output_is = rw (l, m) }

  pub form_written : {out' : List ℕ} {r : ℕ} → size ≤ longest → size ≤ length out → Put out out' 0 r form → FormWritten form place out out' (answer 0 place size)
  unfolding form_judged
  form_written h k p =
      let n : size ≡ length form = omega arith in
      let l = le-ltb longest (length form) (omega arith) in
      let m = le-ltb (length out) (length form) (omega arith) in
      record { answer_is = rw (l, m, n); output_is = rw (l, m) (p.laid ∙ put_whole form out (omega arith)) }

-- ---- reading, and then the form

module _ (doc : List ℕ) {names qnames events names' qnames' events' : List ℕ} {a : reader-answer.Answer}
    (h : Reads (reading doc (room_in (length names) (length qnames) (length events))) names qnames events names' qnames' events' a) where
  abbrev r : Result
  r = reading doc (room_in (length names) (length qnames) (length events))

  -- 1 to 9: reading's answer, and the output is not touched
  pub not_read : (out : List ℕ) {b : Answer} → (a.number ≡ 0 → ⊥) → b ≡ answer a.number a.place 0 → Rewrites doc r names qnames events out names' qnames' events' out b
  unfolding rewrite_answer output_of
  not_read out n i =
      let e = number_read h in
      let p = place_read h in
      let t : eqb r.number accepted ≡ false = ne_eqb r.number 0 (λ z. n (e ∙ z)) in
      record {
        answer_is = i ∙ rw (t, e, p);
        names_are = h.names_are;
        qnames_are = h.qnames_are;
        events_are = h.events_are;
        output_is = rw (t, t);
      }

  module _ (ok : a.number ≡ 0) where
    read_ok : r.number ≡ 0
    read_ok = sym (number_read h) ∙ ok

    pub version_few : a.version ≤ 2
    version_few = let v = version_low doc (room_in (length names) (length qnames) (length events)) read_ok in let e = ap (λ (x : reader-answer.Answer). x.version) h.answer_is in omega arith

    pub names_asks : (classes : List ℕ) → length classes ≡ 1024
        → (a.names ≤ 1024) × (name_width * a.names ≤ length names') × (length doc ≤ 65536) × (length classes ≡ 1024) × Every (NameFits (length doc)) (name_rows_in a.names names')
    names_asks classes l = let f = read_filled doc h ok in (f.few, f.long, f.short, l, f.names_fit)

    pub qnames_asks : (classes qclasses : List ℕ) → length classes ≡ 1024 → length qclasses ≡ 1024 → Front (name_classes doc (name_rows_in a.names names')) classes
        → (a.names ≤ 1024) × (name_width * a.names ≤ length names') × (a.qnames ≤ 1024) × (qname_width * a.qnames ≤ length qnames') × (length classes ≡ 1024) × (length qclasses ≡ 1024)
        × Front (name_classes doc (name_rows_in a.names names')) classes × Every (QnameFits a.names) (qname_rows_in a.qnames qnames')
    qnames_asks classes qclasses l m c = let f = read_filled doc h ok in (f.few, f.long, f.qfew, f.qlong, l, m, c, f.qnames_fit)

    pub prepared : (classes qclasses : List ℕ) → length classes ≡ 1024 → length qclasses ≡ 1024 → Front (name_classes doc (name_rows_in a.names names')) classes
        → Front (qname_classes doc (name_rows_in a.names names') (qname_rows_in a.qnames qnames')) qclasses
        → Prepared (tables doc names' qnames' classes qclasses) events' a.names a.qnames a.events
    prepared classes qclasses l m f g =
        record {
          filled = read_filled doc h ok;
          balanced = rw (events_back h) (balanced doc (room_in (length names) (length qnames) (length events)) read_ok);
          classes_long = l;
          classes_are = f;
          qclasses_long = m;
          qclasses_are = g;
        }

    form_is : canonical a.version (events_in doc names' qnames' events' a.names a.qnames a.events) ≡ form_of doc r
    unfolding form_of
    form_is = let e = ap (λ (x : reader-answer.Answer). x.version) h.answer_is in rw (same_events h doc, e)

    pub formed : (out out' : List ℕ) {b : Answer}
        → FormWritten (canonical a.version (events_in doc names' qnames' events' a.names a.qnames a.events)) a.place out out' b
        → Rewrites doc r names qnames events out names' qnames' events' out' b
    unfolding rewrite_answer output_of
    formed out out' {b} f =
        let t : eqb r.number accepted ≡ true = eq-eqb r.number 0 read_ok in
        let p = place_read h in
        let g : FormWritten (form_of doc r) r.place out out' b = rw (form_is, p) at f in
        record {
          answer_is = rw t g.answer_is;
          names_are = h.names_are;
          qnames_are = h.qnames_are;
          events_are = h.events_are;
          output_is = rw t g.output_is;
        }
