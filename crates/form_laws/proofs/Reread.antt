-- A document with the bytes of a reading's form is read as the form should be. Assumes nothing.
use Prim.Native.Nat.{ℕ, zero, suc, ◌*◌, ◌≤◌}
use mathlib.Core.Path.{◌≡◌, refl, sym, ◌∙◌, ap}
use mathlib.Core.Bool.{true}
use mathlib.Core.List.{List, [], ◌∷◌, map}
use native.Mathlib.Omega.{arith}
use lib.ListN.{length, get_elem?, drop}
use borrow.Author.Tests.{le-ltb}
use Rattle.sequences.specs.Lists.{In}
use Rattle.sequences.specs.Arrays.{Every, first}
use Rattle.sequences.proofs.Overlay.{part_length}
use Rattle.std.specs.Prelude.{Ok}
use Rattle.token.specs.Tokens.{accepted, longest, name_rows, qname_rows}
use Rattle.modes.specs.Modes.{content}
use Rattle.scan.specs.Steps.{end_step, step_at}
use Rattle.scan.specs.declared.Room.{Room}
use Rattle.scan.specs.declared.Step.TheVariants as step
use Rattle.machine.specs.Machine.{NameRow, EventRow, State, view, started, reading, text_in, name_text, event_of, events_of}
use Rattle.machine.specs.Facts.{NameFits}
use Rattle.machine.proofs.Goes.{ended, answer_ended}
use Rattle.machine.proofs.Trace as traces
use Rattle.machine.proofs.Trace.{Trace, Stopped, stops_reading}
use Rattle.machine.proofs.Readings.{accepted_ends}
use Rattle.machine.proofs.Facts.{rows_fit}
use Rattle.form.specs.Canonical.{none_yet, body}
use Rattle.grammar.specs.Grammar.{Point, Depth, HeaderBytes, Document, document}
use Rattle.grammar.proofs.Leaves.{header_derived}
use Rattle.grammar.proofs.Steps as steps
use Rattle.grammar.proofs.Steps.{Fits, Path}
use Rattle.grammar.proofs.Ends.{same_end, all_open, all_nested}
use Rattle.grammar.proofs.Exact.{accepted_derives}
use Rattle.form_laws.specs.Forms.{events_read, tokens_read}
use Rattle.form_laws.proofs.Written.{Fit}
use Rattle.form_laws.proofs.Modes.{same}
use Rattle.form_laws.proofs.Scopes.{name_is, row_triple, half_none, outermost}
use Rattle.form_laws.proofs.Define.{Ghost, Sim}
use Rattle.form_laws.proofs.Again.{rest, rest_are, again}

-- ---- the texts of a reading's names

pub text_fits : (d : List ℕ) (N : List NameRow) → length d ≤ longest → Every (NameFits (length d)) N → (r : ℕ) → Fit (name_text d N r)
unfolding name_text
text_fits d N l h zero = record { even = omega arith; small = omega arith }
text_fits d N l h (suc k) = go N h k
  where
    go : (M : List NameRow) → Every (NameFits (length d)) M → (k : ℕ) → Fit (text_in d (get_elem? M k))
    go [] h k = record { even = omega arith; small = omega arith }
    go (r ∷ M) (first f h) zero =
        let n = part_length d r.place (2 * r.units) f.inside in
        let i = f.inside in
        record { even = rw n (omega arith); small = rw n (omega arith) }
    go (r ∷ M) (first f h) (suc k) = go M h k

header_in : {d : List ℕ} {m : Depth} {version : ℕ} {s t : Point} → Document d m version s t → HeaderBytes d s.at version
header_in (document h x y z c) = h

-- the steps of a reading, as a walk
as_path : {d : List ℕ} {room : Room} {s u : State} → Trace d room s u → Path all_open all_nested d room s u
as_path traces.none = steps.none
as_path (traces.by x g e t) = steps.by x g e (as_path t)

-- at the end of the document, nothing open
end_stops : (d : List ℕ) (room : Room) (s : State) → length d ≤ s.at → s.outer ≡ [] → s.here.elements ≡ 0 → content s.mode ≡ true
    → Ok (step.End (length d)) ≡ step_at d (view s) room
unfolding step_at end_step
end_stops d room s l o e c = rw (le-ltb s.at (length d) l, o, e, c)

-- ---- reading it

module _ (d f : List ℕ) (room : Room) (n : room.names ≤ name_rows) (q : room.qnames ≤ qname_rows) (ok : (reading d room).number ≡ accepted) where
  -- the document f is accepted with the same events and outer version, and no more rows
  pub record Reread : Type 0 where
    pub number_is : (reading f room).number ≡ accepted
    pub version_is : (reading f room).version ≡ (reading d room).version
    pub events_are : events_read f room ≡ events_read d room
    pub tokens_are : tokens_read f room ≡ tokens_read d room
    pub names_few : length (reading f room).final.names ≤ length (reading d room).final.names
    pub qnames_few : length (reading f room).final.qnames ≤ length (reading d room).final.qnames

  -- reading ends where a walk of it stops
  ended_fact : {version : ℕ} → Stopped f room version (started version 5) (reading f room) → (a : State)
      → Path all_open all_nested f room (started version 5) a → Ok (step.End (length f)) ≡ step_at f (view a) room
      → ((reading f room).final ≡ a) × ((reading f room).number ≡ accepted)
  ended_fact w a p s =
      let e : (reading f room).final ≡ a = same_end all_open all_nested f room (as_path w.trace) p w.halts w.stop ended s in
      let z : w.last ≡ Ok (step.End (length f)) =
      w.stop ∙ ap (λ (x : State). step_at f (view x) room) e ∙ sym s in
      (e, (answer_ended w.halts z).0)

  pub reread : length f ≤ longest → HeaderBytes f 0 (reading d room).version → drop 5 f ≡ body none_yet (events_read d room) → Reread
  unfolding events_of
  reread short h left =
      let version = (reading d room).version in
      let u = (reading d room).final in
      let D = accepted_derives d room ok in
      let nf = D.names_few in
      let qf = D.qnames_few in
      let w = stops_reading d room D.not_long (header_derived d (header_in D.derived)) in
      let ends = accepted_ends w ok in
      let fit = text_fits d u.names D.not_long (rows_fit d room).names in
      let i : u.events ≡ rest w.trace = rest_are w.trace in
      let G : Ghost = record { mine = []; qmine = []; owed = 0; qowed = 0 } in
      let S : Sim d u.names u.qnames f room fit (started version 5) (started version 5) none_yet G (body none_yet (map (event_of d u.names u.qnames) (rest w.trace))) = record {
        here =
            record {
              version = refl;
              elements = refl;
              names = half_none (name_is d u.names) (λ M P. name_is f M) _ _ _;
              qnames = half_none (row_triple d u.names u.qnames) (row_triple f) _ _ _;
              parts = λ k (m : In k []). elim m [ ];
            };
        outer = outermost;
        events = refl;
        names = omega arith;
        qnames = omega arith;
        left = left ∙ ap (λ (l : List EventRow). body none_yet (map (event_of d u.names u.qnames) l)) i;
      } in
      let A = again d f room u fit D.not_long (omega arith) (omega arith) ends w.trace (started version 5) none_yet G same S in
      let a = A.end in
      let c = A.done in
      let c₁ = c.names_few in
      let c₂ = c.qnames_few in
      let c₃ = c.events_few in
      let ef = D.events_few in
      let fits : Fits room a = record { names = omega arith; qnames = omega arith; events = omega arith } in
      let v = stops_reading f room short (header_derived f h) in
      let x = ended_fact v a (A.walk.steps fits) (end_stops f room a c.past c.outer_none c.elements_none c.at_root) in
      let rows : (reading f room).final.events ≡ A.rows = ap (λ (s : State). s.events) x.0 ∙ A.events in
      record {
        number_is = x.1;
        version_is = v.version_is;
        events_are = rw x.0 (ap (map (event_of f a.names a.qnames)) A.events ∙ A.same ∙ ap (map (event_of d u.names u.qnames)) (sym i));
        tokens_are = ap (map (λ (e : EventRow). e.token)) rows ∙ A.tokens ∙ ap (map (λ (e : EventRow). e.token)) (sym i);
        names_few = rw x.0 c₁;
        qnames_few = rw x.0 c₂;
      }
