-- The numbers that the program compares stand for the symbols of the meanings: the classes of the texts of names tell those
-- texts apart, and each symbol of a document's meanings has a code. Assumes nothing.
use Prim.Native.Nat.{ℕ, zero, suc, ◌*◌, ◌≤◌, ◌<◌}
use mathlib.Core.Path.{◌≡◌, refl, ap}
use mathlib.Core.Logic.{◌⊎◌, inl, inr}
use mathlib.Core.Bool.{Bool, true, false, ◌&&◌}
use mathlib.Core.Option.{Option, none, some}
use mathlib.Core.List.{List, [], ◌∷◌, map}
use native.Mathlib.Omega.{arith}
use lib.Dec.{eqb, ltb}
use lib.ListN.{get_elem?}
use borrow.Author.Tests.{eqb-true, ltb-true}
use Rattle.sequences.specs.Lists.{Bytes, part, same}
use Rattle.sequences.specs.Arrays.{Every, none, first}
use Rattle.sequences.proofs.Tests.{cond_if, and_left, and_right}
use Rattle.sequences.proofs.Units.{bytes_take, bytes_drop}
use Rattle.sequences.proofs.Members.{every_append}
use Rattle.token.specs.Tokens.{Token, token, tokens, find, class_of}
use Rattle.token.specs.declared.Class.{Class}
use Rattle.token.specs.declared.Class.TheVariants as class
use Rattle.token.specs.declared.Shape.TheVariants.{Nothing}
use Rattle.machine.specs.Machine.{NameRow, QnameRow, EventRow, Event, texted, standalone, pi, qnamed, valued, nest, plain, text_in, name_text, qname_in, qname_event, event_by, event_of}
use Rattle.machine.specs.Tables.{name_rows_in, qname_rows_in, event_rows_in, events_in}
use Rattle.machine.proofs.Tables.{at_inside, length_name_rows}
use Rattle.plan.specs.Text.{text_of}
use Rattle.classes.specs.Classes.{texts_of}
use Rattle.classes.proofs.Classes as classes
use Rattle.classes.proofs.Classes.{number_empty, number_some, same_class, name_known, name_text_at, length_texts}
use Rattle.meaning.specs.Meaning.{Symbol, unit, opening, ending, attribute, closing, value, qname, OpenAttribute, none_open, counted, skipped, declares, closed, unless, shown_as, named_symbols, plain_symbols, symbols_of, attribute_after, depth_after, inside, begins, onto, new_if, pieces, rest, meanings, same_meaning, pairs_of}
use Rattle.meaning.specs.Codes.{codes_of, Classes, Coded}
use Rattle.meaning.proofs.Codes.{codes_pairs}
use Rattle.render.specs.Render.{Renderable}
use Rattle.marks.specs.Names.{class_in}
use Rattle.lister_contract.proofs.Units.{Low, units_low, text_low}

-- ---- the texts of names

-- the empty text, or a text of the first rows of a table of names
unfoldable pub Known : List ℕ → List ℕ → ℕ → List ℕ → Type 0
Known doc names rows t = classes.Known (texts_of doc (name_rows_in rows names)) t

module _ (doc names : List ℕ) (rows : ℕ) where
  name_in : (x : ℕ) → Known doc names rows (name_text doc (name_rows_in rows names) x)
  unfolding Known name_text
  name_in zero = inl refl
  name_in (suc k) = go (get_elem? (name_rows_in rows names) k) refl
    where
      go : (o : Option NameRow) → get_elem? (name_rows_in rows names) k ≡ o → classes.Known (texts_of doc (name_rows_in rows names)) (text_in doc o)
      go none e = inl refl
      go (some r) e =
          let h = at_inside (name_rows_in rows names) k e in
          let t = name_text_at doc (name_rows_in rows names) k e in
          rw t at (name_known doc (name_rows_in rows names) (suc k) (omega arith))

  class_small : rows ≤ 1024 → (t : List ℕ) → Known doc names rows t → class_in doc names rows t ≤ 1024
  unfolding Known
  class_small few [] i = let e = number_empty (texts_of doc (name_rows_in rows names)) in omega arith
  class_small few (b ∷ t) (inl i) = absurd (let z : ◌≡◌ {A = ℕ} 0 1 = cc in let q : ⊥ = omega arith in q)
  class_small few (b ∷ t) (inr i) =
      let e = number_some (texts_of doc (name_rows_in rows names)) (b ∷ t) (omega arith) in
      let l = length_texts doc (name_rows_in rows names) in
      let m = length_name_rows rows names in
      omega arith

  -- the classes of known texts are at most 1,024, and equal only for equal texts
  few_known : rows ≤ 1024 → Classes (Known doc names rows) (class_in doc names rows)
  unfolding Known
  few_known few = record { small = class_small few; apart = λ t u i j e. same_class (texts_of doc (name_rows_in rows names)) t u i j e }

-- ---- tokens of values

abbrev all_low : List Token → Bool
all_low [] = true
all_low (t ∷ ts) = ltb t.code 256 && all_low ts

found_low : (code : ℕ) (ts : List Token) → all_low ts ≡ true → (find code ts ≡ token code class.Unknown Nothing) ⊎ (code < 256)
found_low code [] h = inl refl
found_low code (t ∷ ts) h =
    cond_if (λ (x : Token). (x ≡ token code class.Unknown Nothing) ⊎ (code < 256)) (eqb code t.code) t (find code ts)
    (λ e. inr (let i = eqb-true code t.code e in let l = ltb-true t.code 256 (and_left (ltb t.code 256) _ h) in omega arith))
    (λ e. found_low code ts (and_right (ltb t.code 256) _ h))

-- a code with a class is a byte
class_low : (code : ℕ) {c : Class} → class_of code ≡ c → (c ≡ class.Unknown → ⊥) → code < 256
unfolding class_of
class_low code {c} e n = go (found_low code tokens refl)
  where
    go : (find code tokens ≡ token code class.Unknown Nothing) ⊎ (code < 256) → code < 256
    go (inr l) = l
    go (inl f) = absurd (n (let i = ap (λ (t : Token). t.class) f in cc))

-- ---- events

-- what an event needs for the symbols that it adds
abbrev CodedEvent : (List ℕ → Type 0) → Event → Type 0
CodedEvent K (texted token t) = Bytes t
CodedEvent K (standalone b) = Unit
CodedEvent K (pi target t) = Unit
CodedEvent K (qnamed token uri prefix local) = K uri × K local
CodedEvent K (valued token payload) = (token < 256) × Bytes payload
CodedEvent K (nest version) = Unit
CodedEvent K (plain token) = Unit

bytes_part : {l : List ℕ} (at size : ℕ) → Bytes l → Bytes (part l at size)
bytes_part at size b = bytes_take size (bytes_drop at b)

module _ (doc names : List ℕ) (rows : ℕ) (b : Bytes doc) (Q : List QnameRow) where
  abbrev N : List NameRow
  N = name_rows_in rows names

  abbrev K : List ℕ → Type 0
  K = Known doc names rows

  qname_in_fact : (code : ℕ) (o : Option QnameRow) → CodedEvent K (qname_in doc N code o)
  qname_in_fact code none = tt
  qname_in_fact code (some q) = (name_in doc names rows q.uri, name_in doc names rows q.local)

  qname_event_fact : (code row : ℕ) → CodedEvent K (qname_event doc N Q code row)
  qname_event_fact code zero = tt
  qname_event_fact code (suc k) = qname_in_fact code (get_elem? Q k)

  by_class : (c : Class) (e : EventRow) → class_of e.token ≡ c → CodedEvent K (event_by c doc N Q e)
  by_class class.Unknown e i = tt
  by_class class.Value e i =
      cond_if (CodedEvent K) (eqb e.token 0x8C) _ _ (λ _. qname_event_fact e.token e.a)
      (λ _. (class_low e.token i (λ j. let z : ◌≡◌ {A = ℕ} 0 1 = cc in omega arith), bytes_part e.a e.b b))
  by_class class.LaterValue e i = (class_low e.token i (λ j. let z : ◌≡◌ {A = ℕ} 0 1 = cc in omega arith), bytes_part e.a e.b b)
  by_class class.XmlDecl e i = bytes_part e.a (2 * e.b) b
  by_class class.Encoding e i = bytes_part e.a (2 * e.b) b
  by_class class.DocType e i = bytes_part e.a (2 * e.b) b
  by_class class.System e i = bytes_part e.a (2 * e.b) b
  by_class class.Public e i = bytes_part e.a (2 * e.b) b
  by_class class.Subset e i = bytes_part e.a (2 * e.b) b
  by_class class.Element e i = qname_event_fact e.token e.a
  by_class class.EndElement e i = tt
  by_class class.Attribute e i = qname_event_fact e.token e.a
  by_class class.EndAttributes e i = tt
  by_class class.Pi e i = tt
  by_class class.Comment e i = bytes_part e.a (2 * e.b) b
  by_class class.Cdata e i = bytes_part e.a (2 * e.b) b
  by_class class.CdataEnd e i = tt
  by_class class.NameDef e i = tt
  by_class class.QnameDef e i = tt
  by_class class.Nest e i = tt
  by_class class.EndNest e i = tt
  by_class class.Extension e i = tt
  by_class class.Flush e i = tt

  rows_coded : (es : List EventRow) → Every (CodedEvent K) (map (event_of doc N Q) es)
  unfolding event_of
  rows_coded [] = none
  rows_coded (e ∷ es) = first (by_class (class_of e.token) e refl) (rows_coded es)

-- ---- symbols

module _ (K : List ℕ → Type 0) where
  units_coded : {us : List ℕ} → Every Low us → Every (Coded K) (map unit us)
  units_coded none = none
  units_coded (first h hs) = first h (units_coded hs)

  one : (s : Symbol) → Coded K s → Every (Coded K) (s ∷ [])
  one s h = first h none

  closed_coded : (q : OpenAttribute) → Every (Coded K) (closed q)
  closed_coded none_open = none
  closed_coded counted = one closing tt
  closed_coded skipped = none

  unless_coded : (q : OpenAttribute) {l : List Symbol} → Every (Coded K) l → Every (Coded K) (unless q l)
  unless_coded none_open h = h
  unless_coded counted h = h
  unless_coded skipped h = none

  shown_coded : (code : ℕ) (payload : List ℕ) (t : Option (List ℕ)) → text_of code payload ≡ t → (code < 256) × Bytes payload
      → Every (Coded K) (shown_as code payload t)
  shown_coded code payload none e h = one (value code payload) h
  shown_coded code payload (some units) e h = units_coded (text_low code payload units h.1 e)

  symbols_coded : (q : OpenAttribute) (e : Event) → CodedEvent K e → Every (Coded K) (symbols_of q e)
  unfolding named_symbols plain_symbols
  symbols_coded q (texted code t) h =
      cond_if (Every (Coded K)) (eqb code 0xF2) _ _ (λ _. units_coded (units_low t h)) (λ _. none)
  symbols_coded q (standalone b) h = none
  symbols_coded q (pi target t) h = none
  symbols_coded q (qnamed code uri prefix local) h =
      cond_if (Every (Coded K)) (eqb code 0xF8) _ _ (λ _. one (opening uri local) h)
      (λ _. cond_if (Every (Coded K)) (eqb code 0xF6) _ _
      (λ _. every_append (closed_coded q)
      (cond_if (Every (Coded K)) (declares uri prefix local) _ _ (λ _. none) (λ _. one (attribute uri local) h)))
      (λ _. unless_coded q (one (qname uri local) h)))
  symbols_coded q (valued code payload) h = unless_coded q (shown_coded code payload (text_of code payload) refl h)
  symbols_coded q (nest version) h = none
  symbols_coded q (plain code) h =
      cond_if (Every (Coded K)) (eqb code 0xF7) _ _ (λ _. one ending tt)
      (λ _. cond_if (Every (Coded K)) (eqb code 0xF5) _ _ (λ _. closed_coded q) (λ _. none))

  onto_coded : {l : List Symbol} {ps : List (List Symbol)} → Every (Coded K) l → Every (Every (Coded K)) ps → Every (Every (Coded K)) (onto l ps)
  onto_coded h none = first h none
  onto_coded h (first p ps) = first (every_append h p) ps

  new_coded : (t : Bool) {ps : List (List Symbol)} → Every (Every (Coded K)) ps → Every (Every (Coded K)) (new_if t ps)
  new_coded true h = first none h
  new_coded false h = h

  pieces_coded : (depth : ℕ) (q : OpenAttribute) (es : List Event) → Every (CodedEvent K) es → Every (Every (Coded K)) (pieces depth q es)
  unfolding pieces
  pieces_coded depth q [] none = first none none
  pieces_coded depth q (e ∷ es) (first h hs) =
      new_coded (begins depth e) (onto_coded
      (cond_if (Every (Coded K)) (inside depth e) (symbols_of q e) [] (λ _. symbols_coded q e h) (λ _. none))
      (pieces_coded (depth_after depth e) (attribute_after q e) es hs))

  rest_coded : {ps : List (List Symbol)} → Every (Every (Coded K)) ps → Every (Every (Coded K)) (rest ps)
  rest_coded none = none
  rest_coded (first p ps) = ps

  meanings_coded : (es : List Event) → Every (CodedEvent K) es → Every (Every (Coded K)) (meanings es)
  unfolding meanings
  meanings_coded es h = rest_coded (pieces_coded 0 none_open es h)

-- ---- the meanings of the rows of a document

module _ {doc names qnames events classes : List ℕ} {rows qrows count : ℕ} (d : Renderable doc names qnames events classes rows qrows count) where
  -- the classes of known texts are at most 1,024, and equal only for equal texts
  pub classes_known : Classes (Known doc names rows) (class_in doc names rows)
  classes_known = few_known doc names rows d.filled.few

  module _ (b : Bytes doc) where
    -- each symbol of the meanings has a code
    pub coded : Every (Every (Coded (Known doc names rows))) (meanings (events_in doc names qnames events rows qrows count))
    unfolding events_in
    coded =
        meanings_coded (Known doc names rows) (map (event_of doc (name_rows_in rows names) (qname_rows_in qrows qnames)) (event_rows_in count events))
        (rows_coded doc names rows b (qname_rows_in qrows qnames) (event_rows_in count events))

    -- the pairs of equal codes are the pairs of equal meanings
    pub same_pairs : pairs_of same (map (codes_of (class_in doc names rows)) (meanings (events_in doc names qnames events rows qrows count)))
        ≡ pairs_of same_meaning (meanings (events_in doc names qnames events rows qrows count))
    same_pairs = codes_pairs (class_in doc names rows) classes_known (meanings (events_in doc names qnames events rows qrows count)) coded
