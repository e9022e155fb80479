-- Rows point to rows before them: in every state that a reading passes through, the rows so far point only to rows so far,
-- and rows are only added. Assumes nothing.
use Prim.Native.Nat.{ℕ}
use mathlib.Core.Path.{◌≡◌, refl, sym, ◌∙◌, ap}
use mathlib.Core.List.{List, [], ◌∷◌, ◌++◌, append_assoc, append-nil}
use Rattle.scan.specs.declared.Room.{Room}
use Rattle.scan.specs.declared.Step.{Step}
use Rattle.scan.specs.declared.Step.TheVariants as step
use Rattle.scan.proofs.Fine.{found_fine}
use Rattle.machine.specs.Machine.{NameRow, QnameRow, EventRow, Scope, State, view, returned, apply, started}
use Rattle.machine.specs.Facts.{RowsFit}
use Rattle.machine.proofs.Trace as trace
use Rattle.machine.proofs.Trace.{Trace, kept}
use Rattle.machine.proofs.Found.{found_step}
use Rattle.machine.proofs.Facts.{Sound, sound_none, sound_step}

-- the rows of one state, then more
pub record Extends (s u : State) : Type 0 where
  pub names : List NameRow
  pub qnames : List QnameRow
  pub events : List EventRow
  pub names_are : u.names ≡ s.names ++ names
  pub qnames_are : u.qnames ≡ s.qnames ++ qnames
  pub events_are : u.events ≡ s.events ++ events

extends_same : (s : State) → Extends s s
extends_same s =
    record {
      names = [];
      qnames = [];
      events = [];
      names_are = sym (append-nil s.names);
      qnames_are = sym (append-nil s.qnames);
      events_are = sym (append-nil s.events);
    }

extends_on : {s t u : State} → Extends s t → Extends t u → Extends s u
extends_on {s} {t} {u} a b =
    record {
      names = a.names ++ b.names;
      qnames = a.qnames ++ b.qnames;
      events = a.events ++ b.events;
      names_are = b.names_are ∙ ap (λ (l : List NameRow). l ++ b.names) a.names_are ∙ append_assoc s.names a.names b.names;
      qnames_are = b.qnames_are ∙ ap (λ (l : List QnameRow). l ++ b.qnames) a.qnames_are ∙ append_assoc s.qnames a.qnames b.qnames;
      events_are = b.events_are ∙ ap (λ (l : List EventRow). l ++ b.events) a.events_are ∙ append_assoc s.events a.events b.events;
    }

-- a step that adds one event, and one that adds no row
with_event : {s u : State} (e : EventRow) → u.names ≡ s.names → u.qnames ≡ s.qnames → u.events ≡ s.events ++ (e ∷ []) → Extends s u
with_event {s} {u} e n q v =
    record {
      names = [];
      qnames = [];
      events = e ∷ [];
      names_are = n ∙ sym (append-nil s.names);
      qnames_are = q ∙ sym (append-nil s.qnames);
      events_are = v;
    }

no_row : {s u : State} → u.names ≡ s.names → u.qnames ≡ s.qnames → u.events ≡ s.events → Extends s u
no_row {s} {u} n q v =
    record {
      names = [];
      qnames = [];
      events = [];
      names_are = n ∙ sym (append-nil s.names);
      qnames_are = q ∙ sym (append-nil s.qnames);
      events_are = v ∙ sym (append-nil s.events);
    }

returned_extends : (s : State) (os : List Scope) (next : ℕ) → Extends s (returned s os next)
returned_extends s [] next = extends_same s
returned_extends s (o ∷ os) next = with_event _ refl refl refl

step_extends : (s : State) (x : Step) → Extends s (apply s x)
step_extends s (step.End place) = extends_same s
step_extends s (step.Name place units next) =
    record { names = _ ∷ []; qnames = []; events = []; names_are = refl; qnames_are = sym (append-nil s.qnames); events_are = sym (append-nil s.events) }
step_extends s (step.Qname uri prefix local next) =
    record { names = []; qnames = _ ∷ []; events = []; names_are = sym (append-nil s.names); qnames_are = refl; events_are = sym (append-nil s.events) }
step_extends s (step.Skip next) = no_row refl refl refl
step_extends s (step.Flush next) = no_row refl refl refl
step_extends s (step.Event token a b mode next) = with_event _ refl refl refl
step_extends s (step.Refer token number mode next) = with_event _ refl refl refl
step_extends s (step.Open number next) = with_event _ refl refl refl
step_extends s (step.Pi target start next) = with_event _ refl refl refl
step_extends s (step.Close next) = with_event _ refl refl refl
step_extends s (step.Nest version next) = with_event _ refl refl refl
step_extends s (step.Leave next) = returned_extends s s.outer next

-- rows are only added
pub only_added : {doc : List ℕ} {room : Room} {s u : State} → Trace doc room s u → Extends s u
only_added (trace.none {s = s}) = extends_same s
only_added (trace.by {s = s} x g e t) = extends_on (step_extends s x) (only_added t)

-- in every state that a reading passes through, the rows so far fit, and so point only to rows so far
pub passed_fit : (doc : List ℕ) (room : Room) (version next : ℕ) {u : State} → Trace doc room (started version next) u → RowsFit doc u
passed_fit doc room version next t =
    (kept doc room (Sound doc) (λ s x i g q. sound_step doc room s i g (found_fine doc (view s) room q) (found_step doc (view s) room q)) t
    (sound_none doc version next)).rows
