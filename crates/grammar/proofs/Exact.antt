-- Reading accepts exactly what the grammar derives within 01's limits, with the derivation's version and rows. Assumes nothing.
use Prim.Native.Nat.{ℕ, ◌+◌, ◌≤◌, ◌<◌}
use mathlib.Core.Path.{◌≡◌, refl, sym, ◌∙◌, ap, subst}
use mathlib.Core.Logic.{◌↔◌}
use mathlib.Core.Bool.{Bool, true, false}
use mathlib.Core.List.{List, [], ◌∷◌, ◌++◌}
use native.Mathlib.Omega.{arith}
use lib.Dec.{ltb}
use lib.ListN.{length, length-append}
use borrow.Author.Tests.{ltb-true, ltb-false}
use Rattle.sequences.specs.Lists.{overlay}
use Rattle.std.specs.Prelude.{Ok, Err}
use Rattle.std.specs.Prelude as std
use Rattle.token.specs.Tokens.{accepted, longest}
use Rattle.token.specs.declared.Refusal.{Refusal}
use Rattle.fields.specs.Fields.{header_at}
use Rattle.fields.specs.declared.Header as headers
use Rattle.modes.specs.Modes.{content}
use Rattle.scan.specs.Steps.{step_at}
use Rattle.modes.specs.declared.Mode.TheVariants as mode
use Rattle.scan.specs.declared.Room.{Room}
use Rattle.scan.specs.declared.Step.{Step}
use Rattle.scan.specs.declared.Step.TheVariants as step
use Rattle.machine.specs.Machine as machine
use Rattle.machine.specs.Machine.{Scope, State, view, apply, started, Result, reading, Reads, flat_names, flat_qnames, flat_events, events_of}
use Rattle.machine.specs.declared.Answer.{Answer}
use Rattle.token.specs.Faults.{number_of}
use Rattle.machine.proofs.Goes.{Goes, ended, answer_ended}
use Rattle.machine.proofs.Trace as traces
use Rattle.machine.proofs.Trace.{Trace, Stopped, stops_reading, kept}
use Rattle.machine.proofs.Whole.{too_long_fact, header_on}
use Rattle.machine.proofs.Refusals.{header_refused}
use Rattle.machine.proofs.Found as found
use Rattle.machine.proofs.Found.{Found, found_step}
use Rattle.machine.proofs.Readings.{accepted_ends}
use Rattle.grammar.specs.Grammar.{Point, Rows, rows_at, before_header, HeaderBytes, Derives, rows_in, Accepts, Derivable, Gives, events_derived}
use Rattle.grammar.proofs.Leaves.{header_found, header_derived}
use Rattle.grammar.proofs.Rest.{wholly, ending}
use Rattle.grammar.proofs.Sound.{point_of, Left, sound}
use Rattle.grammar.proofs.Steps as steps
use Rattle.grammar.proofs.Steps.{state_of, Fits, Path}
use Rattle.grammar.proofs.Ends.{same_end, Reaches, all_open, all_nested, limited}

-- ---- the rows of a reading have room

one_more : {A : Type 0} (l : List A) (a : A) {n : ℕ} → length l < n → length (l ++ (a ∷ [])) ≤ n
one_more l a h = simp length-append (omega arith)

module _ (doc : List ℕ) (room : Room) where
  event_fits : (s : State) {x : Step} → Goes x → Found doc (view s) room (Ok x) → Fits room s → Fits room (apply s x)
  event_fits s g (found.ended l d e c) f = absurd g
  event_fits s g (found.name_def t e n) f = record { names = one_more s.names _ n; qnames = f.qnames; events = f.events }
  event_fits s g (found.qname_def t a b c n) f = record { names = f.names; qnames = one_more s.qnames _ n; events = f.events }
  event_fits s g (found.skip t e l) f = record { names = f.names; qnames = f.qnames; events = f.events }
  event_fits s g (found.flush t) f = record { names = f.names; qnames = f.qnames; events = f.events }
  event_fits s g (found.texted t l e n) f = record { names = f.names; qnames = f.qnames; events = one_more s.events _ n }
  event_fits s g (found.encoding i m b e n) f = record { names = f.names; qnames = f.qnames; events = one_more s.events _ n }
  event_fits s g (found.standalone i d b n) f = record { names = f.names; qnames = f.qnames; events = one_more s.events _ n }
  event_fits s g (found.end_attributes t n) f = record { names = f.names; qnames = f.qnames; events = one_more s.events _ n }
  event_fits s g (found.cdata_end t n) f = record { names = f.names; qnames = f.qnames; events = one_more s.events _ n }
  event_fits s g (found.value t c e n) f = record { names = f.names; qnames = f.qnames; events = one_more s.events _ n }
  event_fits s g (found.qname_value t c e a b n) f = record { names = f.names; qnames = f.qnames; events = one_more s.events _ n }
  event_fits s g (found.attribute t e n) f = record { names = f.names; qnames = f.qnames; events = one_more s.events _ n }
  event_fits s g (found.element t o e n) f = record { names = f.names; qnames = f.qnames; events = one_more s.events _ n }
  event_fits s g (found.close t n) f = record { names = f.names; qnames = f.qnames; events = one_more s.events _ n }
  event_fits s g (found.pi t a e n) f = record { names = f.names; qnames = f.qnames; events = one_more s.events _ n }
  event_fits s g (found.nest t d e n) f = record { names = f.names; qnames = f.qnames; events = one_more s.events _ n }
  event_fits s g (found.leave t n) f = go s.outer
    where
      go : (os : List Scope) → Fits room (machine.returned s os (s.at + 1))
      go [] = f
      go (o ∷ os) = record { names = f.names; qnames = f.qnames; events = one_more s.events _ n }

  all_fit : {version next : ℕ} {f : State} → Trace doc room (started version next) f → Fits room f
  all_fit t =
      kept doc room (Fits room) (λ s x f g e. event_fits s g (found_step doc (view s) room e) f) t
      (record { names = omega arith; qnames = omega arith; events = omega arith })

  -- ---- accepted: derived

  ended_fact : (f : State) (os : List Scope) → f.outer ≡ os → length os ≡ 0 → f.here.elements ≡ 0 → content f.mode ≡ true → f.at ≡ length doc → Left doc f (point_of f)
  ended_fact f [] o d e c l = rw (o, e) (ending doc f.mode (point_of f) c l)
  ended_fact f (p ∷ os) o d e c l = absurd (let q : ⊥ = omega arith in q)

  derived_by : (version : ℕ) → length doc ≤ longest → HeaderBytes doc 0 version → (r : Result) → Stopped doc room version (started version 5) r → r.number ≡ 0
      → Derives doc room r.version (rows_in r.final)
  derived_by version l h r w e =
      let f = r.final in
      let n = accepted_ends w e in
      let a = n.past in
      let b = w.within in
      let x = wholly doc {s = before_header} h (sound doc w.trace (ended_fact f f.outer refl n.depth_none n.elements_none n.at_root (omega arith))) in
      let k = all_fit w.trace in
      rw w.version_is
      (record {
        deep = x.deep;
        end = point_of f;
        derived = x.derived;
        whole = x.whole;
        rows_are = refl;
        not_long = l;
        elements_few = x.elements_few;
        nested_few = x.nested_few;
        names_few = k.names;
        qnames_few = k.qnames;
        events_few = k.events;
      })

  accepted_header : length doc ≤ longest → (h : std.Result headers.Header Refusal) → header_at doc 0 ≡ h → (reading doc room).number ≡ 0
      → Derives doc room (reading doc room).version (rows_in (reading doc room).final)
  accepted_header l (Ok x) e z =
      let h = header_found doc 0 e in
      derived_by x.version l h.0 (reading doc room) (rw h.1 at (stops_reading doc room l e)) z
  accepted_header l (Err x) e z =
      let q = (header_refused doc 0 e).some in
      let n : number_of x.fault ≡ 0 = ap (λ (r : Result). r.number) (header_on doc room l refl e) ∙ z in
      absurd (let y : ⊥ = omega arith in y)

  accepted_length : (b : Bool) → ltb longest (length doc) ≡ b → (reading doc room).number ≡ 0 → Derives doc room (reading doc room).version (rows_in (reading doc room).final)
  accepted_length true e z =
      let n : ◌≡◌ {A = ℕ} 1 0 = ap (λ (r : Result). r.number) (too_long_fact doc room (ltb-true _ _ e)) ∙ z in
      absurd (let y : ⊥ = omega arith in y)
  accepted_length false e z = accepted_header (ltb-false _ _ e) (header_at doc 0) refl z

  -- what is accepted is derived, with the version and the rows of the reading
  pub accepted_derives : (reading doc room).number ≡ 0 → Derives doc room (reading doc room).version (rows_in (reading doc room).final)
  accepted_derives z = accepted_length (ltb longest (length doc)) refl z

  -- ---- derived: accepted

  -- the steps of a reading, as a walk
  as_path : {s f : State} → Trace doc room s f → Path all_open all_nested doc room s f
  as_path traces.none = steps.none
  as_path (traces.by x g e t) = steps.by x g e (as_path t)

  accepts_by : {version : ℕ} {u : Point} → Reaches all_open all_nested doc room version u → Stopped doc room version (started version 5) (reading doc room)
      → Accepts doc room version (rows_at u)
  accepts_by {version} {u} x w =
      let q : (reading doc room).final ≡ state_of u x.last 0 [] = same_end all_open all_nested doc room (as_path w.trace) x.path w.halts w.stop ended x.stop in
      let z : w.last ≡ Ok (step.End (length doc)) = w.stop ∙ ap (λ (s : State). step_at doc (view s) room) q ∙ sym x.stop in
      let a = answer_ended w.halts z in
      record { number_is = a.0; place_is = a.1; version_is = w.version_is; rows_are = ap rows_in q }

  pub derived_accepts : {version : ℕ} {rows : Rows} → Derives doc room version rows → Accepts doc room version rows
  derived_accepts {version} {rows} g =
      let e = g.rows_are in
      let f : Fits room (state_of g.end mode.Content 0 []) =
      record {
        names = subst (λ (r : Rows). length r.names ≤ room.names) (sym e) g.names_few;
        qnames = subst (λ (r : Rows). length r.qnames ≤ room.qnames) (sym e) g.qnames_few;
        events = subst (λ (r : Rows). length r.events ≤ room.events) (sym e) g.events_few;
      } in
      let x = limited doc room g.derived g.whole g.elements_few g.nested_few f in
      subst (λ (r : Rows). Accepts doc room version r) e (accepts_by x (stops_reading doc room g.not_long (header_derived doc x.header)))

  accepts_derives : {version : ℕ} {rows : Rows} → Accepts doc room version rows → Derives doc room version rows
  accepts_derives {version} {rows} a =
      subst (λ (r : Rows). Derives doc room version r) a.rows_are
      (subst (λ (v : ℕ). Derives doc room v (rows_in (reading doc room).final)) a.version_is (accepted_derives a.number_is))

  -- demand 2: with any other number, the document has no derivation within the limits
  pub refused_none : ((reading doc room).number ≡ accepted → ⊥) → (version : ℕ) (rows : Rows) → Derives doc room version rows → ⊥
  refused_none r version rows g = r (derived_accepts g).number_is

  -- demand 2: the events of the derivation's rows, names by text, are those that reading's tables give
  pub events_agree : (version : ℕ) (rows : Rows) → Derives doc room version rows → events_of doc (reading doc room).final ≡ events_derived doc rows
  unfolding events_of
  events_agree version rows g = ap (events_derived doc) (derived_accepts g).rows_are

  -- demand 2: reading answers 0 with this version and these rows exactly when the document is derived with them within the limits
  pub exactly : (version : ℕ) (rows : Rows) → Accepts doc room version rows ↔ Derives doc room version rows
  exactly version rows = (λ a. accepts_derives a, λ g. derived_accepts g)

-- ---- the same of the job (`Reads`, machine/specs/Machine.antt)

module _ (doc : List ℕ) (room : Room) {names qnames events names' qnames' events' : List ℕ} {a : Answer}
    (x : Reads (reading doc room) names qnames events names' qnames' events' a) where
  -- demand 2: where there is a derivation, the answer is 0 and the tables hold its rows
  pub derived_given : (version : ℕ) (rows : Rows) → Derives doc room version rows → Gives doc version rows names qnames events names' qnames' events' a
  derived_given version rows g =
      let d = derived_accepts doc room g in
      record {
        number_is = ap (λ (b : Answer). b.number) x.answer_is ∙ d.number_is;
        place_is = ap (λ (b : Answer). b.place) x.answer_is ∙ d.place_is;
        version_is = ap (λ (b : Answer). b.version) x.answer_is ∙ d.version_is;
        names_are = x.names_are ∙ ap (λ (r : Rows). overlay (flat_names r.names) names) d.rows_are;
        qnames_are = x.qnames_are ∙ ap (λ (r : Rows). overlay (flat_qnames r.qnames) qnames) d.rows_are;
        events_are = x.events_are ∙ ap (λ (r : Rows). overlay (flat_events r.events) events) d.rows_are;
      }

  -- demand 2: the answer is 0 exactly when there is a derivation within the limits
  pub read_exactly : (a.number ≡ accepted) ↔ Derivable doc room
  read_exactly = (
    λ e. record {
      version = (reading doc room).version;
      rows = rows_in (reading doc room).final;
      derives = accepted_derives doc room (ap (λ (b : Answer). b.number) (sym x.answer_is) ∙ e);
    },
    λ d. (derived_given d.version d.rows d.derives).number_is,
  )
