-- Each of the commonest tokens is the step that stands there. Assumes nothing.
use Prim.Native.Nat.{ℕ, ◌+◌, ◌≤◌, ◌<◌}
use mathlib.Core.Path.{◌≡◌, refl, sym, ◌∙◌, ap}
use mathlib.Core.Bool.{true}
use mathlib.Core.List.{List}
use native.Mathlib.Omega.{arith}
use lib.ListN.{length, get_or}
use lib.Seq.{drop-cons}
use Rattle.sequences.proofs.Overlay.{part_length}
use Rattle.sequences.proofs.Tests.{tests}
use Rattle.std.specs.Prelude.{Ok}
use Rattle.token.specs.Tokens.{open_elements, largest, class_of, shape_of}
use Rattle.token.specs.Fixed.{fixed_of}
use Rattle.token.specs.declared.Class.{Class}
use Rattle.token.specs.declared.Class.TheVariants as class
use Rattle.token.specs.declared.Shape.TheVariants as shape
use Rattle.token.proofs.Fixed.{fixed_is}
use Rattle.number.specs.Number.{front, number, number_at}
use Rattle.rules.specs.Rules.{lawful}
use Rattle.value.specs.Fields.{extent_at, field_at}
use Rattle.value.specs.declared.Field.TheVariants as field
use Rattle.value.proofs.Fields.{needed_there}
use Rattle.fields.specs.Fields.{qname, qname_at}
use Rattle.modes.specs.Modes.{content, allowed, after_value}
use Rattle.scan.specs.Steps.{event_due, element_step, value_step, class_step, step_at}
use Rattle.common.specs.Common.{Ready}
use Rattle.modes.specs.declared.Mode.{Mode}
use Rattle.modes.specs.declared.Mode.TheVariants.{Content, Tag, First, Prolog, AfterDocType, AfterSystem, AfterPublic, Attributes, Cdata, AfterXmlDecl, AfterEncoding}
use Rattle.modes.specs.declared.View.{View}
use Rattle.scan.specs.declared.Room.{Room}
use Rattle.scan.specs.declared.Step.{Step}
use Rattle.scan.specs.declared.Step.TheVariants as step
use Rattle.token.specs.declared.QnameNumber.{QnameNumber}
use Rattle.modes.proofs.ModeLaws.{content_is}
use Rattle.scan.proofs.Steps.{token_on, at_token}

-- a number of one byte
one_byte : (doc : List ℕ) (at : ℕ) {b : ℕ} → at < length doc → b ≡ get_or doc at 0 → b < 128 → Ok (number b (at + 1)) ≡ number_at 5 doc at
unfolding number_at front
one_byte doc at {b} h e l =
    let k : get_or doc at 0 < 128 = rw e at l in
    let m : get_or doc at 0 ≤ largest = omega arith in
    rw (e, drop-cons doc at 0 h) (simp (tests, k, m))

-- a payload of one size
fixed_field : (doc : List ℕ) (at size : ℕ) → at + 1 + size ≤ length doc → Ok (field.Payload (at + 1) size) ≡ field_at (shape.Fixed size) doc at
unfolding field_at extent_at lawful
fixed_field doc at size h = rw (← needed_there doc (at + 1) size h, part_length doc (at + 1) size h) (simp tests)

-- a qname that is known
known_qname : (doc : List ℕ) (at known next : ℕ) {b : ℕ} → (b ≡ 0 → ⊥) → b ≤ known → Ok (number b next) ≡ number_at 5 doc at → Ok (qname (record { 0 = b }) next) ≡ qname_at known doc at
unfolding qname_at
known_qname doc at known next {b} n l e = let k : 1 ≤ b = omega arith in rw (← e) (simp (tests, k, l))

content_goes_on : (m : Mode) → content m ≡ true → Content ≡ after_value m
content_goes_on Content h = refl
content_goes_on Tag h = refl
content_goes_on First h = refl
content_goes_on Prolog h = refl
content_goes_on AfterDocType h = refl
content_goes_on AfterSystem h = refl
content_goes_on AfterPublic h = refl
content_goes_on Attributes h = absurd (let z : ◌≡◌ {A = ℕ} 0 1 = cc in let q : ⊥ = omega arith in q)
content_goes_on Cdata h = refl
content_goes_on AfterXmlDecl h = refl
content_goes_on AfterEncoding h = refl

module _ {doc : List ℕ} {v : View} {room : Room} (r : Ready doc v room) where
  contents : content v.mode ≡ true
  contents = let h = r.in_content in sym (content_is v.mode) ∙ simp (tests, h)

  -- a token that may stand here does what its class does
  stands : {c : Class} → c ≡ class_of (get_or doc v.at 0) → allowed c v ≡ true → class_step c doc v room (get_or doc v.at 0) ≡ step_at doc v room
  stands {c} e a =
      ap (λ d. class_step d doc v room (get_or doc v.at 0)) e
      ∙ token_on doc v room (get_or doc v.at 0) (sym a ∙ ap (λ d. allowed d v) e) refl
      ∙ at_token doc v room r.here (let h = r.in_content in omega arith) refl

  due_on : (on : Step) → Ok on ≡ event_due v room on
  unfolding event_due
  due_on on = let h = r.row_left in simp (tests, h)

  open_on : {n : QnameNumber} {next : ℕ} → v.opened < open_elements → Ok (qname n next) ≡ qname_at v.qknown doc (v.at + 1)
      → event_due v room (step.Open n next) ≡ element_step doc v room
  unfolding element_step
  open_on o q = rw (← q) (simp (tests, o))

  value_on : (token : ℕ) {place size : ℕ} → Ok (field.Payload place size) ≡ field_at (shape_of token) doc v.at
      → event_due v room (step.Event token place size (after_value v.mode) (place + size)) ≡ value_step doc v room token
  unfolding value_step
  value_on token f = rw (← f)

  pub ends : get_or doc v.at 0 ≡ 0xF7 → (v.elements ≡ 0 → ⊥) → Ok (step.Close (v.at + 1)) ≡ step_at doc v room
  unfolding class_of class_step
  ends e n =
      let k : 0 < v.elements = omega arith in
      let c = contents in
      due_on _ ∙ stands {c = class.EndElement} (ap class_of (sym e)) (simp (tests, c, k))

  pub begins : get_or doc v.at 0 ≡ 0xF8 → v.opened < open_elements → v.at + 1 < length doc → {b : ℕ} → b ≡ get_or doc (v.at + 1) 0 → b < 128
      → (b ≡ 0 → ⊥) → b ≤ v.qknown → Ok (step.Open (record { 0 = b }) (v.at + 2)) ≡ step_at doc v room
  unfolding class_of class_step
  begins e o h {b} g l n k =
      let p : v.at + 2 ≡ v.at + 1 + 1 = omega arith in
      let q : Ok (qname (record { 0 = b }) (v.at + 2)) ≡ qname_at v.qknown doc (v.at + 1) =
      rw p (known_qname doc (v.at + 1) v.qknown (v.at + 1 + 1) n k (one_byte doc (v.at + 1) h g l)) in
      due_on (step.Open (record { 0 = b }) (v.at + 2))
      ∙ open_on o q
      ∙ stands {c = class.Element} (ap class_of (sym e)) contents

  pub fixes : {size : ℕ} → size ≡ fixed_of (get_or doc v.at 0) → (size ≡ 0 → ⊥) → v.at + 1 + size ≤ length doc
      → Ok (step.Event (get_or doc v.at 0) (v.at + 1) size Content (v.at + 1 + size)) ≡ step_at doc v room
  unfolding class_step
  fixes {size} e n h =
      let s = fixed_is (get_or doc v.at 0) (λ z. n (e ∙ z)) in
      let f : Ok (field.Payload (v.at + 1) size) ≡ field_at (shape_of (get_or doc v.at 0)) doc v.at =
      fixed_field doc v.at size h ∙ rw (s.shape_is, e) in
      let c = contents in
      rw (content_goes_on v.mode c)
      (due_on (step.Event (get_or doc v.at 0) (v.at + 1) size (after_value v.mode) (v.at + 1 + size))
      ∙ value_on (get_or doc v.at 0) f
      ∙ stands {c = class.Value} (sym s.class_is) (simp c))
