-- The rows of events: which tokens they have, how far each reaches, and that they lie one after the other. Assumes nothing.
use Prim.Native.Nat.{ℕ, ◌+◌, ◌*◌, ◌≤◌, ◌<◌}
use mathlib.Core.Path.{◌≡◌, refl}
use mathlib.Core.Logic.{◌⊎◌, inl, inr}
use mathlib.Core.Bool.{Bool, true, false, cond, ◌&&◌}
use mathlib.Core.List.{List, [], ◌∷◌, ◌++◌}
use native.Mathlib.Omega.{arith}
use lib.Dec.{eqb, ltb}
use lib.ListN.{length}
use borrow.Author.Tests.{eqb-true, ltb-true}
use Rattle.sequences.specs.Arrays.{none, first}
use Rattle.sequences.proofs.Tests.{and_left, and_right}
use Rattle.token.specs.Tokens.{Token, tokens, find, class_of, shape_of}
use Rattle.token.specs.declared.Class.{Class}
use Rattle.token.specs.declared.Class.TheVariants as class
use Rattle.token.specs.declared.Shape.{Shape}
use Rattle.value.specs.Fields.{text, text_at, field_at}
use Rattle.std.specs.Prelude.{Ok}
use Rattle.value.specs.declared.Field.TheVariants as field
use Rattle.value.proofs.Fields.{field_inside, payload_inside, text_lies, is_lies}
use Rattle.machine.specs.Machine.{EventRow}
use Rattle.machine.specs.Facts as facts
use Rattle.machine.specs.Facts.{text_tokens, qname_tokens, bare_tokens, EventFits, Placed}
use Rattle.machine.proofs.Facts.{every_one_of}
use Rattle.render_elements.specs.Codes.{room_by}
use Rattle.render_elements.proofs.Rows.{room_value}

-- ---- the codes of values

-- the token of a value has a code from 1 to 9F
abbrev low_value : Token → Bool
low_value t = ltb 0 t.code && ltb t.code 0xA0

abbrev value_class : Class → Bool
value_class class.Unknown = false
value_class class.Value = true
value_class class.LaterValue = true
value_class class.XmlDecl = false
value_class class.Encoding = false
value_class class.DocType = false
value_class class.System = false
value_class class.Public = false
value_class class.Subset = false
value_class class.Element = false
value_class class.EndElement = false
value_class class.Attribute = false
value_class class.EndAttributes = false
value_class class.Pi = false
value_class class.Comment = false
value_class class.Cdata = false
value_class class.CdataEnd = false
value_class class.NameDef = false
value_class class.QnameDef = false
value_class class.Nest = false
value_class class.EndNest = false
value_class class.Extension = false
value_class class.Flush = false

abbrev all_low : List Token → Bool
all_low [] = true
all_low (t ∷ ts) = cond (value_class t.class) (low_value t) true && all_low ts

found_low : (code : ℕ) (ts : List Token) → all_low ts ≡ true → value_class (find code ts).class ≡ true → (0 < code) × (code < 0xA0)
found_low code [] h e = absurd (let z : ◌≡◌ {A = ℕ} 0 1 = cc in let q : ⊥ = omega arith in q)
found_low code (t ∷ ts) h e = go (eqb code t.code) refl e (λ i. found_low code ts (and_right (cond (value_class t.class) (low_value t) true) _ h) i)
  where
    low : value_class t.class ≡ true → low_value t ≡ true
    low v = rw v at (and_left (cond (value_class t.class) (low_value t) true) _ h)

    go : (b : Bool) → eqb code t.code ≡ b → value_class (cond b t (find code ts)).class ≡ true
        → (value_class (find code ts).class ≡ true → (0 < code) × (code < 0xA0)) → (0 < code) × (code < 0xA0)
    go true i v f =
        let k : code ≡ t.code = eqb-true code t.code i in
        let a = ltb-true 0 t.code (and_left (ltb 0 t.code) _ (low v)) in
        let b = ltb-true t.code 0xA0 (and_right (ltb 0 t.code) _ (low v)) in
        (omega arith, omega arith)
    go false i v f = f v

pub value_code_lem : (code : ℕ) → (class_of code ≡ class.Value) ⊎ (class_of code ≡ class.LaterValue) → (0 < code) × (code < 0xA0)
unfolding class_of
value_code_lem code c = found_low code tokens refl (by c)
  where
    by : (class_of code ≡ class.Value) ⊎ (class_of code ≡ class.LaterValue) → value_class (class_of code) ≡ true
    by (inl e) = rw e
    by (inr e) = rw e

-- ---- rows

module _ (doc : List ℕ) where
  pub text_there : (at : ℕ) {place units : ℕ} → text_at 5 doc at ≡ Ok (text place units) → (at < place) × (place + 2 * units ≤ length doc)
  text_there at e = let l = is_lies (length doc) at e (text_lies 5 doc at) in (l.0, l.1)

  pub payload_there : (shape : Shape) (at : ℕ) {place size : ℕ} → field_at shape doc at ≡ Ok (field.Payload place size) → (at < place) × (place + size ≤ length doc)
  payload_there shape at e = payload_inside (length doc) at e (field_inside shape doc at)

  module _ (m n : ℕ) where
    -- a row adds at most five numbers for each of its bytes, and two more
    pub fits_room : {e : EventRow} {next : ℕ} → EventFits doc m n e next → room_by e.token e.b + 5 * e.place ≤ 5 * next + 2
    fits_room (facts.standalone {place = p} v) = omega arith
    fits_room (facts.texted {token = k} {place = p} {a = a} {units = u} t e) =
        let i = text_there (p + 1) e in
        every_one_of text_tokens (λ (x : ℕ). room_by x u + 5 * p ≤ 5 * (a + 2 * u) + 2) k
        (first (omega arith) (first (omega arith) (first (omega arith) (first (omega arith)
        (first (omega arith) (first (omega arith) (first (omega arith) (first (omega arith) none)))))))) t
    fits_room (facts.pi {place = p} {start = s} r l e) = let i = text_there s e in omega arith
    fits_room (facts.reference {token = k} {place = p} {next = next} t a b l h) =
        every_one_of qname_tokens (λ (x : ℕ). room_by x 0 + 5 * p ≤ 5 * next + 2) k (first (omega arith) (first (omega arith) (first (omega arith) none))) t
    fits_room (facts.nested a b) = omega arith
    fits_room (facts.bare {token = k} {place = p} t) =
        every_one_of bare_tokens (λ (x : ℕ). room_by x 0 + 5 * p ≤ 5 * (p + 1) + 2) k
        (first (omega arith) (first (omega arith) (first (omega arith) (first (omega arith) none)))) t
    fits_room (facts.value {token = k} {place = p} {a = a} {size = s} c e) =
        let i = payload_there (shape_of k) p e in
        let l = value_code_lem k c in
        let z : room_by k s ≡ 6 + 5 * s = room_value k s (λ e. let q : ⊥ = omega arith in q) l.1 in
        omega arith

    -- rows from place p on, one after the other, all before `at`
    abbrev pub Ahead : ℕ → List EventRow → ℕ → Type 0
    Ahead p [] at = p ≤ at
    Ahead p (e ∷ es) at = (next : ℕ) × (p ≤ e.place) × EventFits doc m n e next × Ahead next es at

    pub ahead_snoc : (p : ℕ) (es : List EventRow) (e : EventRow) (from next at : ℕ) → Ahead p es from → from ≤ e.place → EventFits doc m n e next → next ≤ at
        → Ahead p (es ++ (e ∷ [])) at
    ahead_snoc p [] e from next at h l f i = (next, omega arith, f, i)
    ahead_snoc p (x ∷ es) e from next at h l f i = (h.0, h.1, h.2, ahead_snoc h.0 es e from next at h.3 l f i)

    pub ahead_of : {es : List EventRow} {at : ℕ} → Placed doc m n es at → Ahead 0 es at
    ahead_of facts.none = omega arith
    ahead_of (facts.then {es} {e} {p} {next} {at} h l f i) = ahead_snoc 0 es e p next at (ahead_of h) l f i

    pub ahead_le : (p : ℕ) (es : List EventRow) (at : ℕ) → Ahead p es at → p ≤ at
    ahead_le p [] at h = h
    ahead_le p (e ∷ es) at h = let i = ahead_le h.0 es at h.3 in let j = fits_room h.2 in omega (arith, h.1)
