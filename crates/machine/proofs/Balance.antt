-- What opens in a reading closes: the checker takes its events, and an accepted reading leaves nothing open. Assumes nothing.
use Prim.Native.Nat.{ℕ, suc, ◌+◌, ◌≤◌, ◌<◌}
use mathlib.Core.Path.{◌≡◌, refl, sym, ◌∙◌, ap}
use mathlib.Core.Bool.{true, ◌&&◌, ◌||◌}
use mathlib.Core.List.{List, [], ◌∷◌, ◌++◌}
use mathlib.Core.Option.{some}
use native.Mathlib.Omega.{arith}
use lib.Dec.{ltb}
use lib.ListN.{length}
use borrow.Author.Tests.{ltb-true, eqb-true, lt-ltb, le-leb}
use Rattle.sequences.proofs.Tests.{and_left, and_right}
use Rattle.std.specs.Prelude.{Ok}
use Rattle.token.specs.Tokens.{class_of}
use Rattle.token.specs.declared.Class.{Class}
use Rattle.token.specs.declared.Class.TheVariants as class
use Rattle.modes.specs.Modes.{content, in_attributes, in_declaration, is, allowed, after_metadata, after_value}
use Rattle.modes.specs.declared.Mode.{Mode}
use Rattle.modes.specs.declared.Mode.TheVariants.{Tag, First, Prolog, AfterDocType, AfterSystem, AfterPublic, Cdata}
use Rattle.modes.specs.declared.View.{View}
use Rattle.scan.specs.declared.Room.{Room}
use Rattle.scan.specs.declared.Step.{Step}
use Rattle.machine.specs.Machine.{EventRow, Scope, State, view, elements_in, returned, apply, reading}
use Rattle.machine.specs.Balance.{Opened, opened, nothing_open, total, taken_by, taken, and_then, check, AtMost}
use Rattle.machine.proofs.Goes.{Goes}
use Rattle.machine.proofs.Trace.{kept}
use Rattle.machine.proofs.Readings.{by_reading, Ends, accepted_ends}
use Rattle.machine.proofs.Checks.{check_append, front_taken, taken_at_most}
use Rattle.machine.proofs.Outside.{no_list, no_section, in_content, content_list, content_section, value_list, value_section, metadata_list, metadata_section, misc_content}
use Rattle.machine.proofs.Found as found
use Rattle.machine.proofs.Found.{Stands, TextLeads, ValueClass, Found, found_step}

-- ---- what is open in a state

abbrev pub elements_of : List Scope → List ℕ
elements_of [] = []
elements_of (o ∷ os) = o.elements ∷ elements_of os

abbrev pub open_in : State → Opened
open_in s = opened (s.here.elements ∷ elements_of s.outer) (in_attributes s.mode) (is s.mode Cdata)

total_elements : (os : List Scope) → total (elements_of os) ≡ elements_in os
total_elements [] = refl
total_elements (o ∷ os) = let i = total_elements os in omega arith

length_elements : (os : List Scope) → length (elements_of os) ≡ length os
length_elements [] = refl
length_elements (o ∷ os) = ap suc (length_elements os)

-- ---- one step

-- a text leads from its mode to the next; a CDATA text opens its section or goes on in it
text_taken : {c : Class} {m : Mode} (v : View) (ds : List ℕ) → TextLeads v.mode c m → allowed c v ≡ true
    → taken_by c (opened ds (in_attributes v.mode) (is v.mode Cdata)) ≡ some (opened ds (in_attributes m) (is m Cdata))
text_taken v ds found.xml_decl a =
    let c = in_content (λ m. is m First) refl refl refl refl v.mode a in rw (content_list _ c, content_section _ c)
text_taken v ds found.doc_type a =
    let c = in_content (λ m. is m First || is m Prolog) refl refl refl refl v.mode a in rw (content_list _ c, content_section _ c)
text_taken v ds found.system a =
    let c = in_content (λ m. is m AfterDocType) refl refl refl refl v.mode a in rw (content_list _ c, content_section _ c)
text_taken v ds found.public a =
    let c = in_content (λ m. is m AfterDocType || is m AfterSystem) refl refl refl refl v.mode a in rw (content_list _ c, content_section _ c)
text_taken v ds found.subset a =
    let c = in_content (λ m. is m AfterDocType || is m AfterSystem || is m AfterPublic) refl refl refl refl v.mode a in
    rw (content_list _ c, content_section _ c)
text_taken v ds found.comment a =
    let c = misc_content v.mode in rw (content_list _ a, content_section _ a, content_list _ c, content_section _ c)
text_taken v ds found.cdata a = rw (no_list (λ m. content m || is m Cdata) refl v.mode a)

value_taken : {c : Class} (v : View) (ds : List ℕ) → ValueClass c → allowed c v ≡ true
    → taken_by c (opened ds (in_attributes v.mode) (is v.mode Cdata)) ≡ some (opened ds (in_attributes (after_value v.mode)) (is (after_value v.mode) Cdata))
value_taken v ds found.any_version a = rw (value_list v.mode, value_section v.mode a)
value_taken v ds found.version_2 a = rw (value_list v.mode, value_section v.mode (and_left (content v.mode || in_attributes v.mode) _ a))

module _ (doc : List ℕ) (room : Room) (s : State) (i : check nothing_open s.events ≡ some (open_in s)) where
  -- metadata opens and closes nothing
  quiet : check nothing_open s.events ≡ some (opened (s.here.elements ∷ elements_of s.outer) (in_attributes (after_metadata s.mode)) (is (after_metadata s.mode) Cdata))
  quiet = rw (metadata_list s.mode, metadata_section s.mode) i

  by_event : (e : EventRow) {b : Opened} → taken e.token (open_in s) ≡ some b → check nothing_open (s.events ++ (e ∷ [])) ≡ some b
  by_event e t = check_append s.events (e ∷ []) nothing_open ∙ ap (and_then (λ c. check c (e ∷ []))) i ∙ ap (and_then (λ c. some c)) t

  leaving : (os : List Scope) (next : ℕ) → s.outer ≡ os → Stands doc (view s) class.EndNest → check nothing_open (returned s os next).events ≡ some (open_in (returned s os next))
  unfolding class_of
  leaving [] next e t =
      let d : 0 < length s.outer = ltb-true _ _ (and_right (content s.mode) _ (and_left (content s.mode && ltb 0 (length s.outer)) _ t.may)) in
      let z : length s.outer ≡ 0 = ap length e in
      absurd (let q : ⊥ = omega arith in q)
  leaving (o ∷ os) next e t =
      let c : content s.mode ≡ true = and_left (content s.mode) _ (and_left (content s.mode && ltb 0 (length s.outer)) _ t.may) in
      let z : s.here.elements ≡ 0 = eqb-true _ _ (and_right (content s.mode && ltb 0 (length s.outer)) _ t.may) in
      let l : 1 < suc (suc (length (elements_of os))) = omega arith in
      by_event _ (rw (e, content_list _ c, content_section _ c, lt-ltb _ _ l, z))

  balance_step : {x : Step} → Goes x → Found doc (view s) room (Ok x) → check nothing_open (apply s x).events ≡ some (open_in (apply s x))
  unfolding class_of
  balance_step g (found.ended l d e c) = absurd g
  balance_step g (found.name_def t e r) = quiet
  balance_step g (found.qname_def t a b c r) = quiet
  balance_step g (found.skip t e l) = quiet
  balance_step g (found.flush t) = quiet
  balance_step g (found.texted t l e r) = by_event _ (rw t.class_is (text_taken (view s) _ l t.may))
  balance_step g (found.encoding a m b e r) = by_event _ (rw (b, m))
  balance_step g (found.standalone a d b r) = by_event _ (rw (no_list in_declaration refl _ d, no_section in_declaration refl _ d))
  balance_step g (found.end_attributes t r) = let m = t.may in by_event _ (rw (t.class_is, m, no_section in_attributes refl _ m))
  balance_step g (found.cdata_end t r) = let m = t.may in by_event _ (rw (t.class_is, m, no_list (λ k. is k Cdata) refl _ m))
  balance_step g (found.value t c e r) = by_event _ (rw t.class_is (value_taken (view s) _ c t.may))
  balance_step g (found.qname_value t c e a b r) = by_event _ (rw t.class_is (value_taken (view s) _ c t.may))
  balance_step g (found.attribute t e r) = by_event _ (rw (no_section (λ m. is m Tag || in_attributes m) refl _ t.may))
  balance_step g (found.element t o e r) =
      let c : content s.mode ≡ true = t.may in
      let k = total_elements s.outer in
      let l : s.here.elements + total (elements_of s.outer) < 64 = omega arith in
      by_event _ (rw (content_list _ c, content_section _ c, lt-ltb _ _ l))
  balance_step g (found.close t r) =
      let c : content s.mode ≡ true = and_left (content s.mode) _ t.may in
      let l : ltb 0 s.here.elements ≡ true = and_right (content s.mode) _ t.may in
      by_event _ (rw (content_list _ c, content_section _ c, l))
  balance_step g (found.pi t n e r) =
      let c : content s.mode ≡ true = t.may in
      let k = misc_content s.mode in
      by_event _ (rw (content_list _ c, content_section _ c, content_list _ k, content_section _ k))
  balance_step g (found.nest t d e r) =
      let c : content s.mode ≡ true = t.may in
      let k = length_elements s.outer in
      let l : suc (length (elements_of s.outer)) ≤ 8 = omega arith in
      by_event _ (rw (content_list _ c, content_section _ c, le-leb _ _ l))
  balance_step g (found.leave t r) = leaving s.outer _ refl t

-- ---- a reading

-- the checker takes the events of any reading, and reaches what is open in its last state
pub reading_balance : (doc : List ℕ) (room : Room) → check nothing_open (reading doc room).final.events ≡ some (open_in (reading doc room).final)
reading_balance doc room =
    by_reading doc room (λ r. check nothing_open r.final.events ≡ some (open_in r.final)) (λ number place l. refl)
    (λ version next w. kept doc room (λ s. check nothing_open s.events ≡ some (open_in s))
    (λ s x i g q. balance_step doc room s i g (found_step doc (view s) room q)) w.trace refl)

none_around : (os : List Scope) → length os ≡ 0 → elements_of os ≡ []
none_around [] e = refl
none_around (o ∷ os) e = absurd (let q : ⊥ = omega arith in q)

ends_closed : {size : ℕ} (s : State) → Ends size (view s) → open_in s ≡ nothing_open
ends_closed s h =
    rw (h.elements_none, none_around s.outer h.depth_none, content_list s.mode h.at_root, content_section s.mode h.at_root)

-- all that opens in an accepted document closes, in it and in each of its nested documents
pub balanced : (doc : List ℕ) (room : Room) → (reading doc room).number ≡ 0 → check nothing_open (reading doc room).final.events ≡ some nothing_open
balanced doc room =
    by_reading doc room (λ r. r.number ≡ 0 → check nothing_open r.final.events ≡ some nothing_open) (λ number place l e. refl)
    (λ version next w e. reading_balance doc room ∙ ap some (ends_closed (reading doc room).final (accepted_ends w e)))

-- after each event of a reading, accepted or refused, at most 64 elements are open in at most 8 nested documents
pub at_most : (doc : List ℕ) (room : Room) (front back : List EventRow) → (reading doc room).final.events ≡ front ++ back → AtMost front
at_most doc room front back e = taken_at_most (front_taken front back nothing_open (sym (ap (check nothing_open) e) ∙ reading_balance doc room))
