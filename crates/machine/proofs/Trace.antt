-- A reading as the list of its steps: what is kept by each step holds of the state that any reading reaches. Reading never
-- runs out of steps. Assumes nothing.
use Prim.Native.Nat.{ℕ, zero, suc, ◌+◌, ◌≤◌, ◌<◌}
use mathlib.Core.Path.{◌≡◌, refl, subst}
use mathlib.Core.List.{List, [], ◌∷◌}
use native.Mathlib.Omega.{arith}
use lib.ListN.{length}
use borrow.Author.Tests.{le-ltb}
use Rattle.std.specs.Prelude.{Result, Ok, Err}
use Rattle.token.specs.Tokens.{longest}
use Rattle.token.specs.declared.Refusal.{Refusal}
use Rattle.fields.specs.Fields.{header, header_at}
use Rattle.fields.specs.Bounds.{HeaderWithin}
use Rattle.fields.specs.declared.Header.{Header}
use Rattle.fields.proofs.Headers.{header_within}
use Rattle.scan.specs.Bounds.{Fine}
use Rattle.scan.specs.Steps.{step_at}
use Rattle.scan.specs.declared.Room.{Room}
use Rattle.scan.specs.declared.Step.{Step}
use Rattle.scan.specs.declared.Step.TheVariants as step
use Rattle.scan.proofs.Fine.{found_fine}
use Rattle.machine.specs.Machine as machine
use Rattle.machine.specs.Machine.{Scope, State, view, returned, apply, run, started, reading}
use Rattle.machine.proofs.Goes.{Goes, Halts, ended, refused, passes, stepped, stopped}

-- the steps from one state to another
pub data Trace (doc : List ℕ) (room : Room) : State → State → Type 0 where
  none : {s : State} → Trace doc room s s
  by : {s u : State} (x : Step) → Goes x → Ok x ≡ step_at doc (view s) room → Trace doc room (apply s x) u → Trace doc room s u

-- a run that stopped: the steps to its last state, and the step that stops there
pub record Stopped (doc : List ℕ) (room : Room) (version : ℕ) (s : State) (r : machine.Result) : Type 0 where
  pub trace : Trace doc room s r.final
  pub last : Result Step Refusal
  pub halts : Halts r.number r.place last
  pub stop : last ≡ step_at doc (view r.final) room
  pub version_is : r.version ≡ version
  pub within : r.final.at ≤ length doc

-- a place inside the document is followed by one inside it
returned_in : (s : State) (os : List Scope) (next n : ℕ) → 0 < length os → next ≤ n → (returned s os next).at ≤ n
returned_in s [] next n d l = absurd (let q : ⊥ = omega arith in q)
returned_in s (o ∷ os) next n d l = l

next_in : (size : ℕ) (room : Room) (s : State) (x : Step) → Goes x → Fine size (view s) room x → (apply s x).at ≤ size
next_in size room s (step.End place) g f = absurd g
next_in size room s (step.Name place units next) g f = f.1
next_in size room s (step.Qname uri prefix local next) g f = f.1
next_in size room s (step.Skip next) g f = f.1
next_in size room s (step.Flush next) g f = f.1
next_in size room s (step.Event token a b mode next) g f = f.1
next_in size room s (step.Refer token number mode next) g f = f.1
next_in size room s (step.Open number next) g f = f.1
next_in size room s (step.Pi target start next) g f = f.1
next_in size room s (step.Close next) g f = f.1
next_in size room s (step.Nest version next) g f = f.1
next_in size room s (step.Leave next) g f = returned_in s s.outer next size f.2 f.1

-- a step stops, or it goes on
data Kind : Result Step Refusal → Type 0 where
  stops : {number place : ℕ} {x : Result Step Refusal} → Halts number place x → Kind x
  going : {x : Step} → Goes x → Kind (Ok x)

kind : (x : Result Step Refusal) → Kind x
kind (Err r) = stops refused
kind (Ok (step.End place)) = stops ended
kind (Ok (step.Name place units next)) = going tt
kind (Ok (step.Qname uri prefix local next)) = going tt
kind (Ok (step.Skip next)) = going tt
kind (Ok (step.Flush next)) = going tt
kind (Ok (step.Event token a b mode next)) = going tt
kind (Ok (step.Refer token number mode next)) = going tt
kind (Ok (step.Open number next)) = going tt
kind (Ok (step.Pi target start next)) = going tt
kind (Ok (step.Close next)) = going tt
kind (Ok (step.Nest version next)) = going tt
kind (Ok (step.Leave next)) = going tt

module _ (doc : List ℕ) (room : Room) (version : ℕ) where
  abbrev Enough : ℕ → Type 0
  Enough left = (s : State) → s.at ≤ length doc → length doc < s.at + left → Stopped doc room version s (run left doc room version s)

  -- one step, and then the rest of the run
  step_run : (left : ℕ) → Enough left → (s : State) → s.at ≤ length doc → length doc < s.at + suc left → (x : Result Step Refusal) → Kind x → x ≡ step_at doc (view s) room
      → Stopped doc room version s (run (suc left) doc room version s)
  step_run left again s i l x (stops h) e =
      rw (← stopped left doc room version s h e)
      (record { trace = none; last = x; halts = h; stop = e; version_is = refl; within = i })
  step_run left again s i l (Ok x) (going g) e =
      let f : Fine (length doc) (view s) room x = found_fine doc (view s) room e in
      let p = passes (length doc) room s x g f in
      let r = again (apply s x) (next_in (length doc) room s x g f) (omega arith) in
      rw (← stepped left doc room version s x e g)
      (record { trace = by x g e r.trace; last = r.last; halts = r.halts; stop = r.stop; version_is = r.version_is; within = r.within })

  enough : (left : ℕ) → Enough left
  enough zero s i l = absurd (let q : ⊥ = omega arith in q)
  enough (suc left) s i l = step_run left (enough left) s i l (step_at doc (view s) room) (kind (step_at doc (view s) room)) refl

-- a document that is not too long and whose header is right is read step by step to a step that stops
pub stops_reading : (doc : List ℕ) (room : Room) {version next : ℕ} → length doc ≤ longest → header_at doc 0 ≡ Ok (header version next)
    → Stopped doc room version (started version next) (reading doc room)
unfolding reading
stops_reading doc room {version} {next} h e =
    let w : HeaderWithin (length doc) 0 (Ok (header version next)) = subst (λ (x : Result Header Refusal). HeaderWithin (length doc) 0 x) e (header_within doc 0) in
    rw (le-ltb longest (length doc) h, e) (enough doc room version (suc (length doc)) (started version next) w.1 (omega arith))

-- what every step keeps holds at the end of a trace
pub kept : (doc : List ℕ) (room : Room) (P : State → Type 0)
    → ((s : State) (x : Step) → P s → Goes x → Ok x ≡ step_at doc (view s) room → P (apply s x))
    → {s u : State} → Trace doc room s u → P s → P u
kept doc room P f none p = p
kept doc room P f (by {s = s} x g e t) p = kept doc room P f t (f s x p g e)
