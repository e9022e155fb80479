-- What the walk writes for an event is what the form says, and what it keeps is what the form has defined. Assumes nothing.
use Prim.Native.Nat.{ℕ, suc, ◌+◌, ◌-◌, ◌*◌, ◌≤◌, ◌<◌}
use mathlib.Core.Path.{◌≡◌, refl, sym, ◌∙◌, ap}
use mathlib.Core.Bool.{Bool}
use mathlib.Core.Option.{some}
use mathlib.Core.List.{List, [], ◌∷◌, ◌++◌, map}
use native.Mathlib.Omega.{arith}
use lib.ListN.{length, get_elem?, length-map}
use Rattle.sequences.specs.Lists.{same}
use Rattle.number.specs.Number.{shortest}
use Rattle.value.specs.Fields.{text_at}
use Rattle.machine.specs.Machine.{NameRow, QnameRow, Event, pi, qnamed, name_text, data_in}
use Rattle.form.specs.Canonical.{Triple, same_triple, place, number_of, qnumber_of, with_units, Defined, defined, Scopes, scopes, emit, scopes_after, left, definition, qname_definition}
use Rattle.classes.specs.Classes.{texts_of, triple_of, triples_of}
use Rattle.form_slots.specs.Slots.{slots_after, parts_at, Cleared, region, slot_count}
use Rattle.form_names.specs.Naming.{names_after}
use Rattle.form_names.proofs.Marks.{Marks, Agree}
use Rattle.form_names.proofs.Names.{Has, Classed, Has3, parts_of, bytes_are, slots_are, number_is, has_grown, number_grown, slots_agree, slots_long, names_agree, names_long}
use Rattle.form_names.proofs.Qnames.{qname_bytes_fact, names_after_fact, qnames_after, qnumber_is}
use Rattle.form_names.proofs.Layers as layers
use Rattle.form_names.proofs.Layers.{Layers, layers_agree, marks_none, cleared_agree}
use Rattle.form_items.specs.declared.Item.{Item}
use Rattle.form_items.specs.declared.Item.TheVariants.{Pi, Refer, Leave}
use Rattle.form_items.specs.Walk.{Tables, pi_bytes, refer_bytes, bytes_for, NamesKept, QnamesKept, nested_after}
use Rattle.classes.specs.Search.{class_at}
use Rattle.rewriter.proofs.ItemLaws as items
use Rattle.rewriter.proofs.ItemLaws.{Meets}

-- what the classes say of the rows
pub record Said (t : Tables) (N : List NameRow) (Q : List QnameRow) : Type 0 where
  pub classed : Classed t.doc t.names (texts_of t.doc N)
  pub few : length (texts_of t.doc N) ≤ 1024
  pub qfew : length (triples_of t.doc N Q) ≤ 1024
  pub class_is : (x : ℕ) → x ≤ length N → class_at t.classes x ≡ number_of (texts_of t.doc N) (name_text t.doc N x)
  pub has : (x : ℕ) → x ≤ length N → Has (texts_of t.doc N) (name_text t.doc N x)
  pub parts_are : (k : ℕ) {q : QnameRow} → get_elem? Q k ≡ some q → parts_at t.qnames t.classes k ≡ parts_of t.doc t.names (texts_of t.doc N) (triple_of t.doc N q)
  pub has3 : (k : ℕ) {q : QnameRow} → get_elem? Q k ≡ some q → Has3 t.doc t.names (texts_of t.doc N) (triple_of t.doc N q)
  pub qclass_is : (k : ℕ) {q : QnameRow} → get_elem? Q k ≡ some q → class_at t.qclasses (suc k) ≡ qnumber_of (triples_of t.doc N Q) (triple_of t.doc N q)
  pub qhas : (k : ℕ) {q : QnameRow} → get_elem? Q k ≡ some q → place same_triple (triples_of t.doc N Q) (triple_of t.doc N q) < length (triples_of t.doc N Q)

abbrev pub names_of : Scopes → List (List (List ℕ))
names_of s = s.here.names ∷ map (λ (d : Defined). d.names) s.outer

abbrev pub qnames_of : Scopes → List (List Triple)
qnames_of s = s.here.qnames ∷ map (λ (d : Defined). d.qnames) s.outer

-- the slots say what the open documents of the form have defined
pub record Kept (t : Tables) (N : List NameRow) (Q : List QnameRow) (slots qslots : List ℕ) (s : Scopes) (depth : ℕ) : Type 0 where
  pub names : Layers same (texts_of t.doc N) slots (names_of s)
  pub qnames : Layers same_triple (triples_of t.doc N Q) qslots (qnames_of s)
  pub deep : length s.outer ≡ depth
  pub long : length slots ≡ slot_count
  pub qlong : length qslots ≡ slot_count

-- the bytes of an item are those of its event, and the slots are kept
pub record Acts (t : Tables) (N : List NameRow) (Q : List QnameRow) (slots qslots slots' qslots' : List ℕ) (s : Scopes) (depth : ℕ) (item : Item) (e : Event) : Type 0 where
  pub bytes : bytes_for t slots qslots (region * depth) item ≡ emit s.here e
  pub kept : Kept t N Q slots' qslots' (scopes_after s e) (nested_after item depth)

top : {A : Type 0} (same : A → A → Bool) (T : List A) {slots : List ℕ} {c : List A} {cs : List (List A)} → Layers same T slots (c ∷ cs) → Marks same T c slots (region * length cs)
top same T (layers.layer m l) = m

under : {A : Type 0} (same : A → A → Bool) (T : List A) {slots : List ℕ} {c : List A} {cs : List (List A)} → Layers same T slots (c ∷ cs) → Layers same T slots cs
under same T (layers.layer m l) = l

module _ (t : Tables) (N : List NameRow) (Q : List QnameRow) (said : Said t N Q) (slots qslots : List ℕ) (s : Scopes) (depth : ℕ) (kept : Kept t N Q slots qslots s depth)
    (room : depth ≤ 8) where
  abbrev T : List (List ℕ)
  T = texts_of t.doc N

  abbrev QT : List Triple
  QT = triples_of t.doc N Q

  abbrev outer_names : List (List (List ℕ))
  outer_names = map (λ (d : Defined). d.names) s.outer

  abbrev outer_qnames : List (List Triple)
  outer_qnames = map (λ (d : Defined). d.qnames) s.outer

  names_deep : length outer_names ≡ depth
  names_deep = length-map s.outer (λ (d : Defined). d.names) ∙ kept.deep

  qnames_deep : length outer_qnames ≡ depth
  qnames_deep = length-map s.outer (λ (d : Defined). d.qnames) ∙ kept.deep

  marks : Marks same T s.here.names slots (region * depth)
  marks = rw names_deep at (top same T kept.names)

  qmarks : Marks same_triple QT s.here.qnames qslots (region * depth)
  qmarks = rw qnames_deep at (top same_triple QT kept.qnames)

  in_slots : region * depth + region ≤ slot_count
  in_slots = omega arith

  -- a new top region over the regions under it
  names_over : {slots' : List ℕ} {c : List (List ℕ)} → Agree (region * depth) slots slots' → Marks same T c slots' (region * depth) → Layers same T slots' (c ∷ outer_names)
  names_over {slots'} {c} g m =
      let n = sym names_deep in
      let g' : Agree (region * length outer_names) slots slots' = rw n at g in
      layers.layer {cs = outer_names} (rw n at m) (layers_agree same T said.few outer_names g' (under same T kept.names))

  qnames_over : {slots' : List ℕ} {c : List Triple} → Agree (region * depth) qslots slots' → Marks same_triple QT c slots' (region * depth) → Layers same_triple QT slots' (c ∷ outer_qnames)
  qnames_over {slots'} {c} g m =
      let n = sym qnames_deep in
      let g' : Agree (region * length outer_qnames) qslots slots' = rw n at g in
      layers.layer {cs = outer_qnames} (rw n at m) (layers_agree same_triple QT said.qfew outer_qnames g' (under same_triple QT kept.qnames))

  -- a PI
  pi_bytes_fact : (x : List ℕ) (class start : ℕ) → Has T x → class ≡ number_of T x
      → pi_bytes t slots (region * depth) class start
      ≡ definition s.here.names x ++ (0xF4 ∷ (shortest (number_of s.here.names x) ++ with_units (data_in t.doc (text_at 5 t.doc start))))
  unfolding pi_bytes
  pi_bytes_fact x class start h e =
      let b : region * depth + region ≤ length slots = rw kept.long in_slots in
      let m = slots_are t.doc t.names T said.classed marks b x h in
      let b' : region * depth + region ≤ length (slots_after slots (region * depth) (number_of T x)) = rw (slots_long slots (region * depth) (number_of T x)) b in
      let i = bytes_are t.doc t.names T said.classed marks b x h in
      let j = number_is t.doc t.names T said.classed m b' x h (has_grown s.here.names x) ∙ number_grown s.here.names x in
      rw (e, i, j)

  act_pi : (row start : ℕ) (slots' qslots' : List ℕ) → row ≤ length N → slots' ≡ slots_after slots (region * depth) (class_at t.classes row) → qslots' ≡ qslots
      → Acts t N Q slots qslots slots' qslots' s depth (Pi row start) (pi (name_text t.doc N row) (data_in t.doc (text_at 5 t.doc start)))
  act_pi row start slots' qslots' l e f =
      let x : List ℕ = name_text t.doc N row in
      let h = said.has row l in
      let b : region * depth + region ≤ length slots = rw kept.long in_slots in
      let m = slots_are t.doc t.names T said.classed marks b x h in
      let e' : slots' ≡ slots_after slots (region * depth) (number_of T x) = e ∙ ap (slots_after slots (region * depth)) (said.class_is row l) in
      record {
        bytes = pi_bytes_fact x (class_at t.classes row) start h (said.class_is row l);
        kept =
            rw (e', f)
            (record {
              names = names_over (slots_agree slots (region * depth) (number_of T x)) m;
              qnames = kept.qnames;
              deep = kept.deep;
              long = slots_long slots (region * depth) (number_of T x) ∙ kept.long;
              qlong = kept.qlong;
            });
      }

  -- an event with a qname
  refer_bytes_fact : (code k class : ℕ) (q : QnameRow) → get_elem? Q k ≡ some q → class ≡ qnumber_of QT (triple_of t.doc N q)
      → refer_bytes t slots qslots (region * depth) code k class
      ≡ qname_definition s.here (triple_of t.doc N q) ++ (code ∷ shortest (qnumber_of s.here.qnames (triple_of t.doc N q)))
  unfolding refer_bytes
  refer_bytes_fact code k class q i e =
      let h = said.has3 k i in
      let b = qname_bytes_fact t.doc t.names T QT said.classed said.qfew marks qmarks kept.long kept.qlong in_slots (triple_of t.doc N q) h (said.qhas k i) in
      let n = qnumber_is t.doc t.names T QT said.classed said.qfew marks qmarks kept.long kept.qlong in_slots (triple_of t.doc N q) h (said.qhas k i) in
      rw (e, said.parts_are k i, b, n)

  act_refer : (code k : ℕ) (q : QnameRow) (slots' qslots' : List ℕ) → get_elem? Q k ≡ some q
      → slots' ≡ names_after slots qslots (region * depth) (parts_at t.qnames t.classes k) (class_at t.qclasses (suc k))
      → qslots' ≡ slots_after qslots (region * depth) (class_at t.qclasses (suc k))
      → Acts t N Q slots qslots slots' qslots' s depth (Refer code (suc k)) (qnamed code (name_text t.doc N q.uri) (name_text t.doc N q.prefix) (name_text t.doc N q.local))
  act_refer code k q slots' qslots' i e f =
      let h = said.has3 k i in
      let x : Triple = triple_of t.doc N q in
      let c = said.qclass_is k i in
      let a = names_after_fact t.doc t.names T QT said.classed said.qfew marks qmarks kept.long kept.qlong in_slots x h (said.qhas k i) in
      let b = qnames_after t.doc t.names T QT said.classed said.qfew marks qmarks kept.long kept.qlong in_slots x h (said.qhas k i) in
      let e' : slots' ≡ names_after slots qslots (region * depth) (parts_of t.doc t.names T x) (qnumber_of QT x) = e ∙ rw (said.parts_are k i, c) in
      let f' : qslots' ≡ slots_after qslots (region * depth) (qnumber_of QT x) = f ∙ rw c in
      record {
        bytes = refer_bytes_fact code k (class_at t.qclasses (suc k)) q i c;
        kept =
            rw (e', f')
            (record {
              names = names_over (names_agree slots qslots (region * depth) (parts_of t.doc t.names T x) (qnumber_of QT x)) a;
              qnames = qnames_over (slots_agree qslots (region * depth) (qnumber_of QT x)) b;
              deep = kept.deep;
              long = names_long slots qslots (region * depth) (parts_of t.doc t.names T x) (qnumber_of QT x) ∙ kept.long;
              qlong = slots_long qslots (region * depth) (qnumber_of QT x) ∙ kept.qlong;
            });
      }

  -- an event that defines nothing
  act_plain : (slots' qslots' : List ℕ) → slots' ≡ slots → qslots' ≡ qslots → Kept t N Q slots' qslots' s depth
  act_plain slots' qslots' e f = rw (e, f) kept

  -- a nested document begins
  act_nest : (slots' qslots' : List ℕ) → Cleared slots slots' (region * depth + region) → Cleared qslots qslots' (region * depth + region)
      → Kept t N Q slots' qslots' (scopes (defined [] []) (s.here ∷ s.outer)) (depth + 1)
  act_nest slots' qslots' e f =
      let i : region * depth + region ≡ region * length (names_of s) = let n = names_deep in omega arith in
      let j : region * depth + region ≡ region * length (qnames_of s) = let n = qnames_deep in omega arith in
      let e' : Cleared slots slots' (region * length (names_of s)) = rw i at e in
      let f' : Cleared qslots qslots' (region * length (qnames_of s)) = rw j at f in
      record {
        names = layers.layer {cs = names_of s} (marks_none same T said.few e') (layers_agree same T said.few (names_of s) (cleared_agree e') kept.names);
        qnames = layers.layer {cs = qnames_of s} (marks_none same_triple QT said.qfew f') (layers_agree same_triple QT said.qfew (qnames_of s) (cleared_agree f') kept.qnames);
        deep = let n = kept.deep in omega arith;
        long = e.long ∙ kept.long;
        qlong = f.long ∙ kept.qlong;
      }

-- a nested document ends
act_leave : (t : Tables) (N : List NameRow) (Q : List QnameRow) (slots qslots slots' qslots' : List ℕ) (here : Defined) (outer : List Defined) (depth : ℕ) → 1 ≤ depth
    → Kept t N Q slots qslots (scopes here outer) depth → slots' ≡ slots → qslots' ≡ qslots → Kept t N Q slots' qslots' (left here outer) (depth - 1)
act_leave t N Q slots qslots slots' qslots' here [] depth d k e f = absurd (let n = k.deep in let q : ⊥ = omega arith in q)
act_leave t N Q slots qslots slots' qslots' here (o ∷ os) depth d k e f =
    rw (e, f)
    (record {
      names = under same (texts_of t.doc N) k.names;
      qnames = under same_triple (triples_of t.doc N Q) k.qnames;
      deep = let n = k.deep in omega arith;
      long = k.long;
      qlong = k.qlong;
    })

-- an item that meets an event
pub acts : (t : Tables) (N : List NameRow) (Q : List QnameRow) → Said t N Q → (slots qslots : List ℕ) (s : Scopes) (depth : ℕ) → Kept t N Q slots qslots s depth → depth ≤ 8
    → {item : Item} {e : Event} → Meets t.doc N Q item e → (item ≡ Leave → 1 ≤ depth) → {slots' qslots' : List ℕ} → NamesKept t slots qslots (region * depth) item slots'
    → QnamesKept t qslots (region * depth) item qslots' → Acts t N Q slots qslots slots' qslots' s depth item e
acts t N Q said slots qslots s depth kept room (items.alone l) up {slots'} {qslots'} a b =
    record { bytes = refl; kept = act_plain t N Q said slots qslots s depth kept room slots' qslots' a b }
acts t N Q said slots qslots s depth kept room (items.bare l n) up {slots'} {qslots'} a b =
    record { bytes = refl; kept = rw n (act_plain t N Q said slots qslots s depth kept room slots' qslots' a b) }
acts t N Q said slots qslots s depth kept room (items.written l i) up {slots'} {qslots'} a b =
    record { bytes = refl; kept = act_plain t N Q said slots qslots s depth kept room slots' qslots' a b }
acts t N Q said slots qslots s depth kept room (items.instruction {row = row} {start = start} l x) up {slots'} {qslots'} a b =
    act_pi t N Q said slots qslots s depth kept room row start slots' qslots' l a b
acts t N Q said slots qslots s depth kept room (items.reference {code = code} {k = k} {q = q} l i h) up {slots'} {qslots'} a b =
    act_refer t N Q said slots qslots s depth kept room code k q slots' qslots' i a b
acts t N Q said slots qslots s depth kept room (items.value l i) up {slots'} {qslots'} a b =
    record { bytes = refl; kept = act_plain t N Q said slots qslots s depth kept room slots' qslots' a b }
acts t N Q said slots qslots s depth kept room (items.nested l) up {slots'} {qslots'} a b =
    record { bytes = refl; kept = act_nest t N Q said slots qslots s depth kept room slots' qslots' a b }
acts t N Q said slots qslots s depth kept room items.left up {slots'} {qslots'} a b =
    record { bytes = refl; kept = act_leave t N Q slots qslots slots' qslots' s.here s.outer depth (up refl) kept a b }

-- the bytes of an item, whatever is kept afterwards
pub bytes_of : (t : Tables) (N : List NameRow) (Q : List QnameRow) → Said t N Q → (slots qslots : List ℕ) (s : Scopes) (depth : ℕ) → Kept t N Q slots qslots s depth → depth ≤ 8
    → {item : Item} {e : Event} → Meets t.doc N Q item e → bytes_for t slots qslots (region * depth) item ≡ emit s.here e
bytes_of t N Q said slots qslots s depth kept room (items.alone l) = refl
bytes_of t N Q said slots qslots s depth kept room (items.bare l n) = refl
bytes_of t N Q said slots qslots s depth kept room (items.written l i) = refl
bytes_of t N Q said slots qslots s depth kept room (items.instruction {row = row} {start = start} l x) =
    pi_bytes_fact t N Q said slots qslots s depth kept room (name_text t.doc N row) (class_at t.classes row) start (said.has row l) (said.class_is row l)
bytes_of t N Q said slots qslots s depth kept room (items.reference {code = code} {k = k} {q = q} l i h) =
    refer_bytes_fact t N Q said slots qslots s depth kept room code k (class_at t.qclasses (suc k)) q i (said.qclass_is k i)
bytes_of t N Q said slots qslots s depth kept room (items.value l i) = refl
bytes_of t N Q said slots qslots s depth kept room (items.nested l) = refl
bytes_of t N Q said slots qslots s depth kept room items.left = refl
