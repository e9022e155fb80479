-- What each way out of a field's function says of the definition; a field lies inside the document, and a payload keeps its
-- shape's rule. Assumes nothing.
use Prim.Native.Nat.{ℕ, ◌+◌, ◌-◌, ◌*◌, ◌≤◌, ◌<◌}
use mathlib.Core.Path.{◌≡◌, refl, sym, ◌∙◌, ap, subst}
use mathlib.Core.Bool.{Bool, true, false, cond}
use mathlib.Core.List.{List}
use native.Mathlib.Omega.{arith}
use lib.Dec.{ltb, leb, eqb}
use lib.ListN.{length, get_or}
use borrow.Author.Tests.{leb-true, eqb-true}
use Rattle.sequences.specs.Lists.{part}
use Rattle.sequences.proofs.Tests.{tests, cond_if}
use Rattle.std.specs.Prelude.{Result, Ok, Err}
use Rattle.token.specs.Tokens.{largest, shape_of}
use Rattle.token.specs.Faults.{refusal}
use Rattle.token.specs.declared.Fault.TheVariants.{Missing, BadValue}
use Rattle.token.specs.declared.Refusal.{Refusal}
use Rattle.token.specs.declared.Shape.{Shape}
use Rattle.token.specs.declared.Shape.TheVariants.{Nothing, Fixed, Text, Blob, CodePage, Decimal, Qname, Stamp, Date, Time, ZonedTime}
use Rattle.number.specs.Number.{number, number_at}
use Rattle.number.specs.Bounds.{Within}
use Rattle.number.specs.declared.Number.{Number}
use Rattle.number.proofs.Within.{number_within}
use Rattle.rules.specs.Rules.{decimal_size, time_bytes, lawful}
use Rattle.value.specs.declared.Text as declared
use Rattle.value.specs.Fields.{needed, text, text_judged, text_at, text_payload, blob_after, decimal_after, time_field, qname_payload, extent_at, ruled, field_at}
use Rattle.value.specs.Bounds.{Lies, Inside}
use Rattle.value.specs.declared.Field.{Field}
use Rattle.value.specs.declared.Field.TheVariants.{Payload, Reference}

module _ (doc : List ℕ) (place size : ℕ) where
  pub needed_there : place + size ≤ length doc → Ok (Payload place size) ≡ needed doc place size
  unfolding needed
  needed_there h = simp (tests, h)

  pub needed_short : length doc < place + size → Err (refusal Missing (length doc)) ≡ needed doc place size
  unfolding needed
  needed_short h = simp (tests, h)

  pub needed_inside : (at : ℕ) → at < place → Inside (length doc) at (needed doc place size)
  unfolding needed
  needed_inside at h =
      cond_if (Inside (length doc) at) (leb (place + size) (length doc)) _ _ (λ t. (h, leb-true _ _ t)) (λ t. tt)

module _ (doc : List ℕ) (at : ℕ) {r n : Result Number Refusal} (most : ℕ) (place : ℕ) (e : r ≡ number_at most doc place) (g : r ≡ n) where
  pub text_on : text_judged doc n ≡ text_at most doc place
  unfolding text_at
  text_on = ap (text_judged doc) (sym g ∙ e)

  pub blob_on : blob_after doc n ≡ blob_after doc (number_at most doc place)
  blob_on = ap (blob_after doc) (sym g ∙ e)

  pub decimal_on : decimal_after doc at n ≡ decimal_after doc at (number_at most doc place)
  decimal_on = ap (decimal_after doc at) (sym g ∙ e)

  pub qname_on : qname_payload n ≡ qname_payload (number_at most doc place)
  qname_on = ap qname_payload (sym g ∙ e)

-- a text's units, there or not
pub text_there : (doc : List ℕ) (units next : ℕ) → next + 2 * units ≤ length doc → Ok (text next units) ≡ text_judged doc (Ok (number units next))
text_there doc units next h = simp (tests, h)

pub text_short : (doc : List ℕ) (units next : ℕ) → length doc < next + 2 * units → Err (refusal Missing (length doc)) ≡ text_judged doc (Ok (number units next))
text_short doc units next h = simp (tests, h)

-- a decimal's length, judged
pub decimal_sized : (doc : List ℕ) (at size next : ℕ) → decimal_size size ≡ true → needed doc next size ≡ decimal_after doc at (Ok (number size next))
decimal_sized doc at size next e = simp e

pub decimal_refused : (doc : List ℕ) (at size next : ℕ) → decimal_size size ≡ false → Err (refusal BadValue at) ≡ decimal_after doc at (Ok (number size next))
decimal_refused doc at size next e = simp e

module _ (doc : List ℕ) (at more : ℕ) where
  pub time_short : length doc ≤ at + 1 → Err (refusal Missing (length doc)) ≡ time_field doc at more
  unfolding time_field
  time_short h = simp (tests, h)

  pub time_refused : at + 1 < length doc → 7 < get_or doc (at + 1) 0 → Err (refusal BadValue at) ≡ time_field doc at more
  unfolding time_field
  time_refused h k = simp (tests, h, k)

  pub time_there : at + 1 < length doc → get_or doc (at + 1) 0 ≤ 7 → {size : ℕ} → size ≡ time_bytes (get_or doc (at + 1) 0)
      → {r : Result Field Refusal} → r ≡ needed doc (at + 1) (1 + size + more) → r ≡ time_field doc at more
  unfolding time_field
  time_there h k e g = g ∙ simp (tests, h, k, e)

  time_inside : Inside (length doc) at (time_field doc at more)
  unfolding time_field
  time_inside =
      cond_if (Inside (length doc) at) (ltb (at + 1) (length doc)) _ _
      (λ t. cond_if (Inside (length doc) at) (leb (get_or doc (at + 1) 0) 7) _ _
      (λ u. needed_inside doc (at + 1) (1 + time_bytes (get_or doc (at + 1) 0) + more) at (omega arith)) (λ u. tt))
      (λ t. tt)

-- ---- inside the document

pub text_lies : (most : ℕ) (doc : List ℕ) (at : ℕ) → Lies (length doc) at (text_at most doc at)
unfolding text_at
text_lies most doc at = go (number_at most doc at) (number_within most doc at)
  where
    go : (n : Result Number Refusal) → Within (length doc) at n → Lies (length doc) at (text_judged doc n)
    go (Ok n) h =
        cond_if (Lies (length doc) at) (leb (n.next + 2 * n.value) (length doc)) _ _ (λ t. (h.0, leb-true _ _ t, h.2)) (λ t. tt)
    go (Err r) h = tt

pub is_lies : (size at : ℕ) {r : Result declared.Text Refusal} {t : declared.Text} → r ≡ Ok t → Lies size at r
    → (at < t.place) × (t.place + 2 * t.units ≤ size) × (t.units ≤ largest)
is_lies size at e h = subst (λ (x : Result declared.Text Refusal). Lies size at x) e h

pub payload_inside : (size at : ℕ) {r : Result Field Refusal} {place n : ℕ} → r ≡ Ok (Payload place n) → Inside size at r → (at < place) × (place + n ≤ size)
payload_inside size at e h = subst (λ (x : Result Field Refusal). Inside size at x) e h

text_inside : (size at : ℕ) (t : Result declared.Text Refusal) → Lies size (at + 1) t → Inside size at (text_payload t)
text_inside size at (Ok t) h = omega arith
text_inside size at (Err r) h = tt

blob_inside : (doc : List ℕ) (at : ℕ) (n : Result Number Refusal) → Within (length doc) (at + 1) n → Inside (length doc) at (blob_after doc n)
blob_inside doc at (Ok n) h = needed_inside doc n.next n.value at (omega arith)
blob_inside doc at (Err r) h = tt

decimal_inside : (doc : List ℕ) (at : ℕ) (n : Result Number Refusal) → Within (length doc) (at + 1) n → Inside (length doc) at (decimal_after doc at n)
decimal_inside doc at (Ok n) h =
    cond_if (Inside (length doc) at) (decimal_size n.value) _ _ (λ t. needed_inside doc n.next n.value at (omega arith)) (λ t. tt)
decimal_inside doc at (Err r) h = tt

qname_inside : (size at : ℕ) (n : Result Number Refusal) → Within size (at + 1) n → Inside size at (qname_payload n)
qname_inside size at (Ok n) h = omega arith
qname_inside size at (Err r) h = tt

pub extent_inside : (shape : Shape) (doc : List ℕ) (at : ℕ) → Inside (length doc) at (extent_at shape doc at)
unfolding extent_at
extent_inside Nothing doc at = needed_inside doc (at + 1) 0 at (omega arith)
extent_inside (Fixed size) doc at = needed_inside doc (at + 1) size at (omega arith)
extent_inside (Text most) doc at = text_inside (length doc) at (text_at most doc (at + 1)) (text_lies most doc (at + 1))
extent_inside (Blob most) doc at = blob_inside doc at (number_at most doc (at + 1)) (number_within most doc (at + 1))
extent_inside (CodePage most) doc at = blob_inside doc at (number_at most doc (at + 1)) (number_within most doc (at + 1))
extent_inside Decimal doc at = decimal_inside doc at (number_at 5 doc (at + 1)) (number_within 5 doc (at + 1))
extent_inside Qname doc at = qname_inside (length doc) at (number_at 5 doc (at + 1)) (number_within 5 doc (at + 1))
extent_inside (Stamp low) doc at = needed_inside doc (at + 1) 8 at (omega arith)
extent_inside (Date first last) doc at = needed_inside doc (at + 1) 3 at (omega arith)
extent_inside (Time first last) doc at = time_inside doc at 3
extent_inside (ZonedTime first last) doc at = time_inside doc at 5

-- the extent that the code found
module _ (shape : Shape) (doc : List ℕ) (at : ℕ) {r : Result Field Refusal} (e : r ≡ extent_at shape doc at) where
  pub here_inside : {f : Result Field Refusal} → r ≡ f → Inside (length doc) at f
  here_inside g = subst (λ (x : Result Field Refusal). Inside (length doc) at x) (sym e ∙ g) (extent_inside shape doc at)

  pub field_on : {f : Result Field Refusal} → r ≡ f → ruled shape doc at f ≡ field_at shape doc at
  unfolding field_at
  field_on g = ap (ruled shape doc at) (sym g ∙ e)

  module _ {place size : ℕ} (g : r ≡ Ok (Payload place size)) where
    -- the rules' answer on the part of the document that the payload is
    module _ {t : Bool} (a : t ≡ lawful shape (part doc place (place + size - place))) where
      answered : t ≡ lawful shape (part doc place size)
      answered = let z : place + size - place ≡ size = omega arith in rw z at a

      pub obeyed : t ≡ true → (Ok (Payload place size) ≡ field_at shape doc at) × Inside (length doc) at (Ok (Payload place size))
      obeyed h =
          let l : lawful shape (part doc place size) ≡ true = sym answered ∙ h in
          ((let q : Ok (Payload place size) ≡ ruled shape doc at (Ok (Payload place size)) = simp l in q) ∙ field_on g, here_inside g)

      pub broken : t ≡ false → (Err (refusal BadValue at) ≡ field_at shape doc at) × Inside (length doc) at (Err (refusal BadValue at))
      broken h =
          let l : lawful shape (part doc place size) ≡ false = sym answered ∙ h in
          ((let q : Err (refusal BadValue at) ≡ ruled shape doc at (Ok (Payload place size)) = simp l in q) ∙ field_on g, tt)

pub field_inside : (shape : Shape) (doc : List ℕ) (at : ℕ) → Inside (length doc) at (field_at shape doc at)
unfolding field_at
field_inside shape doc at = go (extent_at shape doc at) (extent_inside shape doc at)
  where
    go : (f : Result Field Refusal) → Inside (length doc) at f → Inside (length doc) at (ruled shape doc at f)
    go (Ok (Payload place size)) h = cond_if (Inside (length doc) at) (lawful shape (part doc place size)) _ _ (λ t. h) (λ t. tt)
    go (Ok (Reference number next)) h = h
    go (Err r) h = h

-- ---- payloads that were found

ruled_lawful : (shape : Shape) (doc : List ℕ) (at : ℕ) (f : Result Field Refusal) {place size : ℕ} → ruled shape doc at f ≡ Ok (Payload place size) → lawful shape (part doc place size) ≡ true
ruled_lawful shape doc at (Ok (Payload p n)) {place} {size} e = go (lawful shape (part doc p n)) refl e
  where
    go : (b : Bool) → lawful shape (part doc p n) ≡ b → cond b (Ok (Payload p n)) (Err (refusal BadValue at)) ≡ Ok (Payload place size) → lawful shape (part doc place size) ≡ true
    go true h e = let i : p ≡ place = cc in let j : n ≡ size = cc in rw (← i, ← j) h
    go false h e = absurd (let z : ◌≡◌ {A = ℕ} 0 1 = cc in let q : ⊥ = omega arith in q)
ruled_lawful shape doc at (Ok (Reference number next)) e = absurd (let z : ◌≡◌ {A = ℕ} 0 1 = cc in let q : ⊥ = omega arith in q)
ruled_lawful shape doc at (Err r) e = absurd (let z : ◌≡◌ {A = ℕ} 0 1 = cc in let q : ⊥ = omega arith in q)

-- a payload keeps the rule of its token's shape
pub payload_lawful : (shape : Shape) (doc : List ℕ) (at : ℕ) {place size : ℕ} → field_at shape doc at ≡ Ok (Payload place size) → lawful shape (part doc place size) ≡ true
unfolding field_at
payload_lawful shape doc at e = ruled_lawful shape doc at (extent_at shape doc at) e

-- no lawful payload has the token that refers to a qname
pub not_qname : (code : ℕ) (p : List ℕ) → lawful (shape_of code) p ≡ true → eqb code 0x8C ≡ false
unfolding lawful shape_of
not_qname code p h = go (eqb code 0x8C) refl
  where
    go : (b : Bool) → eqb code 0x8C ≡ b → eqb code 0x8C ≡ false
    go true e =
        absurd
        (let k : code ≡ 0x8C = eqb-true code 0x8C e in
        let i : lawful (shape_of 0x8C) p ≡ true = rw k at h in
        let z : ◌≡◌ {A = ℕ} 0 1 = cc in
        let q : ⊥ = omega arith in
        q)
    go false e = e
