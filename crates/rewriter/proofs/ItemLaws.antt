-- A row of events and the item that the walk takes it for say the same. Assumes nothing.
use Prim.Native.Nat.{ℕ, zero, suc, ◌+◌, ◌*◌, ◌≤◌, ◌<◌}
use mathlib.Core.Path.{◌≡◌, refl, ◌∙◌, ap}
use mathlib.Core.Logic.{◌⊎◌, inl, inr}
use mathlib.Core.Bool.{Bool, true, false, ◌&&◌}
use mathlib.Core.Option.{some}
use mathlib.Core.List.{List, [], ◌∷◌}
use native.Mathlib.Omega.{arith}
use lib.Dec.{eqb, ltb}
use lib.ListN.{length, get_elem?}
use borrow.Author.Tests.{eqb-true, ltb-true}
use Rattle.sequences.specs.Lists.{part}
use Rattle.sequences.specs.Arrays.{none, first}
use Rattle.sequences.proofs.Tests.{cond_if, and_left, and_right}
use Rattle.token.specs.Tokens.{Token, token, tokens, find, class_of, shape_of}
use Rattle.token.specs.declared.Class.{Class}
use Rattle.token.specs.declared.Class.TheVariants as class
use Rattle.token.specs.declared.Shape.TheVariants.{Nothing}
use Rattle.value.specs.Fields.{text, text_at}
use Rattle.std.specs.Prelude.{Ok}
use Rattle.value.proofs.Fields.{field_inside, payload_inside, text_lies, is_lies, payload_lawful, not_qname}
use Rattle.machine.specs.Machine.{NameRow, QnameRow, EventRow, event, Event, texted, standalone, pi, qnamed, valued, nest, plain, name_text, data_in, qname_event, event_by, event_of}
use Rattle.machine.specs.Facts as facts
use Rattle.machine.specs.Facts.{text_tokens, qname_tokens, bare_tokens, EventFits}
use Rattle.machine.proofs.Facts.{every_one_of}
use Rattle.form_items.specs.declared.Item.{Item}
use Rattle.form_items.specs.declared.Item.TheVariants.{Byte, Texted, Pi, Refer, Valued, Nest, Leave}
use Rattle.form_items.specs.Items.{item_by, item_of}
use Rattle.form_items.specs.Walk.{TextThere}

-- ---- tokens

abbrev all_low : List Token → Bool
all_low [] = true
all_low (t ∷ ts) = ltb t.code 256 && all_low ts

found_low : (code : ℕ) (ts : List Token) → all_low ts ≡ true → (find code ts ≡ token code class.Unknown Nothing) ⊎ (code < 256)
found_low code [] h = inl refl
found_low code (t ∷ ts) h =
    cond_if (λ (x : Token). (x ≡ token code class.Unknown Nothing) ⊎ (code < 256)) (eqb code t.code) t (find code ts)
    (λ e. inr (let i = eqb-true code t.code e in let l = ltb-true t.code 256 (and_left (ltb t.code 256) _ h) in omega arith))
    (λ e. found_low code ts (and_right (ltb t.code 256) _ h))

no_value : (c : Class) → c ≡ class.Unknown → (c ≡ class.Value) ⊎ (c ≡ class.LaterValue) → ⊥
no_value c e (inl i) = let z : ◌≡◌ {A = ℕ} 0 1 = cc in omega arith
no_value c e (inr i) = let z : ◌≡◌ {A = ℕ} 0 1 = cc in omega arith

-- the code of a value is a byte
value_low : (code : ℕ) → (class_of code ≡ class.Value) ⊎ (class_of code ≡ class.LaterValue) → code < 256
unfolding class_of
value_low code c = go (found_low code tokens refl)
  where
    go : (find code tokens ≡ token code class.Unknown Nothing) ⊎ (code < 256) → code < 256
    go (inr l) = l
    go (inl e) = absurd (no_value (find code tokens).class (ap (λ (t : Token). t.class) e) c)

-- ---- items

-- an item and an event say the same, and what the item names is there
pub data Meets (doc : List ℕ) (N : List NameRow) (Q : List QnameRow) : Item → Event → Type 0 where
  alone : {value : ℕ} → value ≤ 2 → Meets doc N Q (Byte value) (standalone value)
  bare : {code : ℕ} → code < 256 → eqb code 0xEB ≡ false → Meets doc N Q (Byte code) (plain code)
  written : {code place units : ℕ} → code < 256 → place + 2 * units ≤ length doc → Meets doc N Q (Texted code place units) (texted code (part doc place (2 * units)))
  instruction : {row start : ℕ} → row ≤ length N → TextThere doc start → Meets doc N Q (Pi row start) (pi (name_text doc N row) (data_in doc (text_at 5 doc start)))
  reference : {code k : ℕ} {q : QnameRow} → code < 256 → get_elem? Q k ≡ some q → k < length Q
      → Meets doc N Q (Refer code (suc k)) (qnamed code (name_text doc N q.uri) (name_text doc N q.prefix) (name_text doc N q.local))
  value : {code place size : ℕ} → code < 256 → place + size ≤ length doc → Meets doc N Q (Valued code place size) (valued code (part doc place size))
  nested : {version : ℕ} → version ≤ 2 → Meets doc N Q (Nest version) (nest version)
  left : Meets doc N Q Leave (plain 0xEB)

at_row : {A : Type 0} (l : List A) (k : ℕ) → k < length l → (a : A) × (get_elem? l k ≡ some a)
at_row [] k h = absurd (let q : ⊥ = omega arith in q)
at_row (a ∷ l) zero h = (a, refl)
at_row (a ∷ l) (suc k) h = at_row l k (omega arith)

module _ (doc : List ℕ) (N : List NameRow) (Q : List QnameRow) where
  text_inside : (at : ℕ) {place units : ℕ} → text_at 5 doc at ≡ Ok (text place units) → place + 2 * units ≤ length doc
  text_inside at e = (is_lies (length doc) at e (text_lies 5 doc at)).1

  refer_meets : (code row : ℕ) → code < 256 → 1 ≤ row → row ≤ length Q → (e : Event) → e ≡ qname_event doc N Q code row → Meets doc N Q (Refer code row) e
  refer_meets code zero l a b e i = absurd (let q : ⊥ = omega arith in q)
  refer_meets code (suc k) l a b e i =
      let r = at_row Q k (omega arith) in
      let j : e ≡ qnamed code (name_text doc N r.0.uri) (name_text doc N r.0.prefix) (name_text doc N r.0.local) = i ∙ rw r.1 in
      rw j (reference l r.1 (omega arith))

  pub item_meets : {e : EventRow} {next : ℕ} → EventFits doc (length N) (length Q) e next → Meets doc N Q (item_of e) (event_of doc N Q e)
  unfolding item_of event_of class_of
  item_meets (facts.standalone v) = alone v
  item_meets (facts.texted {token = k} {place = p} {a = a} {units = u} t e) =
      let i = text_inside (p + 1) e in
      every_one_of text_tokens (λ (x : ℕ). Meets doc N Q (item_of (event x p a u)) (event_of doc N Q (event x p a u))) k
      (first (written (omega arith) i) (first (written (omega arith) i) (first (written (omega arith) i) (first (written (omega arith) i)
      (first (written (omega arith) i) (first (written (omega arith) i) (first (written (omega arith) i) (first (written (omega arith) i) none)))))))) t
  item_meets (facts.pi {p = p} {u = u} r l e) = instruction r (record { place = p; units = u; is = e })
  item_meets (facts.reference {token = k} {place = p} {row = row} t a b l n) =
      every_one_of qname_tokens (λ (x : ℕ). Meets doc N Q (item_of (event x p row 0)) (event_of doc N Q (event x p row 0))) k
      (first (refer_meets 0xF8 row (omega arith) a b _ refl) (first (refer_meets 0xF6 row (omega arith) a b _ refl)
      (first (refer_meets 0x8C row (omega arith) a b _ refl) none))) t
  item_meets (facts.nested a b) = nested b
  item_meets (facts.bare {token = k} {place = p} t) =
      every_one_of bare_tokens (λ (x : ℕ). Meets doc N Q (item_of (event x p 0 0)) (event_of doc N Q (event x p 0 0))) k
      (first (bare (omega arith) refl) (first (bare (omega arith) refl) (first (bare (omega arith) refl) (first left none)))) t
  item_meets (facts.value {token = k} {place = p} {a = a} {size = n} c e) =
      let i = payload_inside (length doc) p e (field_inside (shape_of k) doc p) in
      by_class c (value (value_low k c) i.1) (not_qname k (part doc a n) (payload_lawful (shape_of k) doc p e))
    where
      by_class : (class_of k ≡ class.Value) ⊎ (class_of k ≡ class.LaterValue) → Meets doc N Q (Valued k a n) (valued k (part doc a n)) → eqb k 0x8C ≡ false
          → Meets doc N Q (item_by (class_of k) (event k p a n)) (event_by (class_of k) doc N Q (event k p a n))
      by_class (inl c) m b = rw (c, b) m
      by_class (inr c) m b = rw c m

-- the token of a row is a byte
pub fits_low : {doc : List ℕ} {names qnames : ℕ} {e : EventRow} {next : ℕ} → EventFits doc names qnames e next → e.token < 256
fits_low (facts.standalone v) = omega arith
fits_low (facts.texted {token = k} t e) =
    every_one_of text_tokens (λ (x : ℕ). x < 256) k
    (first (omega arith) (first (omega arith) (first (omega arith) (first (omega arith)
    (first (omega arith) (first (omega arith) (first (omega arith) (first (omega arith) none)))))))) t
fits_low (facts.pi r l e) = omega arith
fits_low (facts.reference {token = k} t a b l n) =
    every_one_of qname_tokens (λ (x : ℕ). x < 256) k (first (omega arith) (first (omega arith) (first (omega arith) none))) t
fits_low (facts.nested a b) = omega arith
fits_low (facts.bare {token = k} t) =
    every_one_of bare_tokens (λ (x : ℕ). x < 256) k (first (omega arith) (first (omega arith) (first (omega arith) (first (omega arith) none)))) t
fits_low (facts.value {token = k} c e) = value_low k c
