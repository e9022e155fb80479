-- What the tables and classes say when the walk begins. Assumes nothing.
use Prim.Native.Nat.{ℕ, zero, suc, ◌+◌, ◌-◌, ◌*◌, ◌≤◌, ◌<◌}
use mathlib.Core.Path.{◌≡◌, refl, sym, ◌∙◌, ap}
use mathlib.Core.Logic.{◌⊎◌, inl, inr}
use mathlib.Core.Option.{Option, some}
use mathlib.Core.List.{List, [], ◌∷◌, ◌++◌}
use native.Mathlib.Omega.{arith}
use lib.ListN.{length, get_or, get_elem?, drop}
use Rattle.sequences.specs.Lists.{same}
use Rattle.sequences.proofs.Overlay.{front_at}
use Rattle.machine.specs.Machine.{NameRow, QnameRow, EventRow, name_row, qname_row, event, name_text, event_of}
use Rattle.machine.specs.Facts as facts
use Rattle.machine.specs.Facts.{QnameFits, EventFits, Placed}
use Rattle.machine.specs.Tables.{name_rows_in, qname_rows_in, event_rows_in}
use Rattle.machine.proofs.Tables.{at_inside, at_some, every_at, length_name_rows, length_qname_rows, length_event_rows, name_row_at, qname_row_at, event_row_at, event_rows_from, names_inside}
use Rattle.form.specs.Canonical.{Triple, same_triple, place, number_of, qnumber_of}
use Rattle.form.proofs.Places.{tells_text, tells_triple, place_at, place_found}
use Rattle.classes.specs.Classes.{row_text, texts_of, name_classes, triple_of, triples_of, qname_classes}
use Rattle.classes.proofs.Classes.{Known, texts_at, length_texts, length_classes, name_class_at, name_text_at, class_text_fact, name_known, triples_at, length_triples, length_qclasses, qname_class_at, qclass_row}
use Rattle.form_slots.specs.Slots.{parts_at}
use Rattle.form_names.specs.Naming.{class_text}
use Rattle.form_names.proofs.Names.{Has, empty, among, Classed, Has3, parts_of}
use Rattle.form_items.specs.Walk.{Tables, Ready, Prepared}
use Rattle.rewriter.proofs.ItemLaws.{Meets, item_meets, fits_low}
use Rattle.rewriter.proofs.Acts.{Said}
use Rattle.form_items.specs.Items.{item_of}
use Rattle.classes.specs.Search.{class_at}
use Rattle.token.specs.Tokens.{qname_width, event_width}

-- ---- rows

at_snoc : {A : Type 0} (l : List A) (x : A) (k : ℕ) {a : A} → get_elem? (l ++ (x ∷ [])) k ≡ some a → (get_elem? l k ≡ some a) ⊎ (a ≡ x)
at_snoc [] x zero e = inr cc
at_snoc [] x (suc k) e = absurd (let z : ◌≡◌ {A = ℕ} 0 1 = cc in let q : ⊥ = omega arith in q)
at_snoc (y ∷ l) x zero e = inl e
at_snoc (y ∷ l) x (suc k) e = at_snoc l x k e

-- an event of rows that fit is one that fits
pub record FitsAs (doc : List ℕ) (names qnames : ℕ) (e : EventRow) : Type 0 where
  pub next : ℕ
  pub fits : EventFits doc names qnames e next

placed_at : {doc : List ℕ} {names qnames : ℕ} {es : List EventRow} {at : ℕ} → Placed doc names qnames es at → (k : ℕ) {e : EventRow} → get_elem? es k ≡ some e
    → FitsAs doc names qnames e
placed_at facts.none k e = absurd (let z : ◌≡◌ {A = ℕ} 0 1 = cc in let q : ⊥ = omega arith in q)
placed_at {doc} {names} {qnames} (facts.then {es = es} {e = x} {next = next} p l f n) k {e} i = or (at_snoc es x k i) (λ h. placed_at p k h)
  where
    or : (get_elem? es k ≡ some e) ⊎ (e ≡ x) → (get_elem? es k ≡ some e → FitsAs doc names qnames e) → FitsAs doc names qnames e
    or (inl h) g = g h
    or (inr h) g = rw h (record { next = next; fits = f })

some_is : {A : Type 0} {a b : A} → ◌≡◌ {A = Option A} (some a) (some b) → a ≡ b
some_is e = cc

has_known : {T : List (List ℕ)} {t : List ℕ} → Known T t → Has T t
has_known (inl e) = empty e
has_known (inr h) = among h

module _ (t : Tables) (events : List ℕ) (rows qrows count : ℕ) (x : Prepared t events rows qrows count) where
  abbrev pub N : List NameRow
  N = name_rows_in rows t.names

  abbrev pub Q : List QnameRow
  Q = qname_rows_in qrows t.qnames

  abbrev pub E : List EventRow
  E = event_rows_in count events

  abbrev T : List (List ℕ)
  T = texts_of t.doc N

  abbrev QT : List Triple
  QT = triples_of t.doc N Q

  pub long_names : length N ≡ rows
  long_names = length_name_rows rows t.names

  pub long_qnames : length Q ≡ qrows
  long_qnames = length_qname_rows qrows t.qnames

  pub long_events : length E ≡ count
  long_events = length_event_rows count events

  -- ---- classes of names
  class_is : (k : ℕ) → k ≤ length N → class_at t.classes k ≡ number_of T (name_text t.doc N k)
  unfolding name_text number_of
  class_is zero h = refl
  class_is (suc k) h =
      let s = at_some N k (omega arith) in
      let l : k < length (name_classes t.doc N) = rw (length_classes t.doc N) (omega arith) in
      front_at (name_classes t.doc N) t.classes k l x.classes_are ∙ name_class_at t.doc N k s.1 ∙ ap (number_of T) (sym (name_text_at t.doc N k s.1))

  has : (k : ℕ) → k ≤ length N → Has T (name_text t.doc N k)
  has k h = has_known (name_known t.doc N k h)

  few : length T ≤ 1024
  few = let a = length_texts t.doc N in let b = long_names in let c = x.filled.few in omega arith

  row_text_fact : (k : ℕ) → k < rows → row_text t.doc (name_row (get_or t.names (2 * k) 0) (get_or t.names (2 * k + 1) 0)) ≡ class_text t.doc t.names (suc k)
  unfolding class_text
  row_text_fact k h = let e : suc k - 1 ≡ k = omega arith in rw e

  classed : Classed t.doc t.names T
  classed =
      record {
        few = few;
        text = λ y h.
            let a = length_texts t.doc N in
            let b = long_names in
            let l : place same T y < rows = omega arith in
            let r = texts_at t.doc N (place same T y) (name_row_at rows t.names (place same T y) l) in
            sym (row_text_fact (place same T y) l) ∙ sym (some_is (sym (place_at same tells_text T y h) ∙ r));
      }

  -- ---- classes of qnames
  qrow_fits : (k : ℕ) → k < qrows → QnameFits rows (qname_row (get_or t.qnames (qname_width * k) 0) (get_or t.qnames (qname_width * k + 1) 0) (get_or t.qnames (qname_width * k + 2) 0))
  qrow_fits k h = every_at x.filled.qnames_fit k (qname_row_at qrows t.qnames k h)

  qinside : (k : ℕ) {q : QnameRow} → get_elem? Q k ≡ some q → k < qrows
  qinside k e = let a = at_inside Q k e in let b = long_qnames in omega arith

  qrow_is : (k : ℕ) {q : QnameRow} → get_elem? Q k ≡ some q → q ≡ qname_row (get_or t.qnames (qname_width * k) 0) (get_or t.qnames (qname_width * k + 1) 0) (get_or t.qnames (qname_width * k + 2) 0)
  qrow_is k e = some_is (sym e ∙ qname_row_at qrows t.qnames k (qinside k e))

  parts_are : (k : ℕ) {q : QnameRow} → get_elem? Q k ≡ some q → parts_at t.qnames t.classes k ≡ parts_of t.doc t.names T (triple_of t.doc N q)
  parts_are k {q} e =
      let f = qrow_fits k (qinside k e) in
      let n = long_names in
      let a = class_is (get_or t.qnames (qname_width * k) 0) (let y = f.uri_in in omega arith) in
      let b = class_is (get_or t.qnames (qname_width * k + 1) 0) (let y = f.prefix_in in omega arith) in
      let c = class_is (get_or t.qnames (qname_width * k + 2) 0) (let y = f.local_in_fact in omega arith) in
      rw (qrow_is k e, a, b, c)

  has3 : (k : ℕ) {q : QnameRow} → get_elem? Q k ≡ some q → Has3 t.doc t.names T (triple_of t.doc N q)
  has3 k {q} e =
      let f = every_at x.filled.qnames_fit k e in
      let n = long_names in
      let a = f.uri_in in
      let b = f.prefix_in in
      let c = f.local_in_fact in
      record { uri = has q.uri (omega arith); prefix = has q.prefix (omega arith); local = has q.local (omega arith) }

  qclass_is : (k : ℕ) {q : QnameRow} → get_elem? Q k ≡ some q → class_at t.qclasses (suc k) ≡ qnumber_of QT (triple_of t.doc N q)
  qclass_is k {q} e =
      let l : k < length (qname_classes t.doc N Q) = let a = at_inside Q k e in rw (length_qclasses t.doc N Q) a in
      front_at (qname_classes t.doc N Q) t.qclasses k l x.qclasses_are ∙ qname_class_at t.doc N Q k e

  qhas : (k : ℕ) {q : QnameRow} → get_elem? Q k ≡ some q → place same_triple QT (triple_of t.doc N q) < length QT
  qhas k {q} e = let p = place_found same_triple tells_triple QT k (triples_at t.doc N Q k e) in let a = p.0 in let b = p.1 in omega arith

  qfew : length QT ≤ 1024
  qfew = let a = length_triples t.doc N Q in let b = long_qnames in let c = x.filled.qfew in omega arith

  pub said : Said t N Q
  said =
      record {
        classed = classed;
        few = few;
        qfew = qfew;
        class_is = class_is;
        has = has;
        parts_are = parts_are;
        has3 = has3;
        qclass_is = qclass_is;
        qhas = qhas;
      }

  -- ---- bounds
  class_low : (k : ℕ) → k ≤ rows → class_at t.classes k ≤ rows
  class_low k h =
      let n = long_names in
      let l : k ≤ length N = omega arith in
      let c = class_is k l in
      let a = (class_text_fact t.doc N k l).0 in
      omega arith

  qclass_bounds : (y : ℕ) → 1 ≤ y → y ≤ qrows → (1 ≤ class_at t.qclasses y) × (class_at t.qclasses y ≤ 1024)
  qclass_bounds zero a b = absurd (let q : ⊥ = omega arith in q)
  qclass_bounds (suc k) a b =
      let s = at_some Q k (let n = long_qnames in omega arith) in
      let o = qclass_row t.doc N Q k (class_at t.qclasses (suc k)) s.1 (qclass_is k s.1) in
      let f = o.from in
      let g = o.to in
      let q = x.filled.qfew in
      (f, omega arith)

  pub ready : Ready t rows qrows
  ready =
      record {
        texts = let f = x.filled in names_inside f.few f.long f.short f.names_fit;
        classes_long = x.classes_long;
        qclasses_long = x.qclasses_long;
        class_low = class_low;
        qrows_few = x.filled.qfew;
        qnames_long = x.filled.qlong;
        uri_in = λ k h. (qrow_fits k h).uri_in;
        prefix_in = λ k h. (qrow_fits k h).prefix_in;
        local_in_fact = λ k h. (qrow_fits k h).local_in_fact;
        qclass_from = λ y a b. (qclass_bounds y a b).0;
        qclass_low = λ y a b. (qclass_bounds y a b).1;
      }

  -- ---- events
  abbrev pub row_at : ℕ → EventRow
  row_at i = event (get_or events (event_width * i) 0) (get_or events (event_width * i + 1) 0) (get_or events (event_width * i + 2) 0) (get_or events (event_width * i + 3) 0)

  pub from_row : (i : ℕ) → i < count → drop i E ≡ row_at i ∷ drop (suc i) E
  from_row i h = event_rows_from count events i h

  pub meets : (i : ℕ) → i < count → Meets t.doc N Q (item_of (row_at i)) (event_of t.doc N Q (row_at i))
  meets i h =
      let f = placed_at x.filled.events_fit i (event_row_at count events i h) in
      let n = long_names in
      let q = long_qnames in
      item_meets t.doc N Q {next = f.next} (rw (n, q) f.fits)

  pub token_low : (i : ℕ) → i < count → get_or events (event_width * i) 0 < 256
  token_low i h = fits_low (placed_at x.filled.events_fit i (event_row_at count events i h)).fits
