-- Steps that go on, and one step of the machine. Assumes nothing.
use Prim.Native.Nat.{ℕ, suc, ◌<◌}
use mathlib.Core.Path.{◌≡◌, refl, sym, ◌∙◌, ap}
use mathlib.Core.List.{List, [], ◌∷◌}
use native.Mathlib.Omega.{arith}
use lib.ListN.{length}
use Rattle.std.specs.Prelude.{Ok, Err}
use Rattle.std.specs.Prelude as std
use Rattle.token.specs.Tokens.{accepted}
use Rattle.token.specs.Faults.{number_of}
use Rattle.token.specs.declared.Refusal.{Refusal}
use Rattle.scan.specs.Bounds.{Fine}
use Rattle.scan.specs.declared.Room.{Room}
use Rattle.scan.specs.declared.Step.{Step}
use Rattle.scan.specs.declared.Step.TheVariants as step
use Rattle.machine.specs.Machine.{Scope, State, view, returned, apply, Result, result, continued, run}
use Rattle.scan.specs.Steps.{step_at}

-- a step that does not stop
abbrev pub Goes : Step → Type 0
Goes (step.End place) = ⊥
Goes (step.Name place units next) = Unit
Goes (step.Qname uri prefix local next) = Unit
Goes (step.Skip next) = Unit
Goes (step.Flush next) = Unit
Goes (step.Event token a b mode next) = Unit
Goes (step.Refer token number mode next) = Unit
Goes (step.Open number next) = Unit
Goes (step.Pi target start next) = Unit
Goes (step.Close next) = Unit
Goes (step.Nest version next) = Unit
Goes (step.Leave next) = Unit

-- what the machine stops at, and the answer that it gives there
pub data Halts : ℕ → ℕ → std.Result Step Refusal → Type 0 where
  ended : {place : ℕ} → Halts accepted place (Ok (step.End place))
  refused : {r : Refusal} → Halts (number_of r.fault) r.place (Err r)

-- a step that goes on is none of these
abbrev Stays : std.Result Step Refusal → Type 0
Stays (Ok x) = Goes x → ⊥
Stays (Err r) = Unit

stays : {number place : ℕ} {x : std.Result Step Refusal} → Halts number place x → Stays x
stays ended = λ g. g
stays refused = tt

pub goes_halts : {number place : ℕ} (x : Step) → Goes x → Halts number place (Ok x) → ⊥
goes_halts x g h = stays h g

-- the answer that is given at the document's end
pub answer_ended : {number place end : ℕ} {x : std.Result Step Refusal} → Halts number place x → x ≡ Ok (step.End end) → (number ≡ accepted) × (place ≡ end)
answer_ended ended e = (refl, cc)
answer_ended refused e = absurd (let z : ◌≡◌ {A = ℕ} 0 1 = cc in let q : ⊥ = omega arith in q)

pub continue_on : (version : ℕ) (s : State) (k : State → Result) (x : Step) → Goes x → continued version s k (Ok x) ≡ k (apply s x)
continue_on version s k (step.End place) g = absurd g
continue_on version s k (step.Name place units next) g = refl
continue_on version s k (step.Qname uri prefix local next) g = refl
continue_on version s k (step.Skip next) g = refl
continue_on version s k (step.Flush next) g = refl
continue_on version s k (step.Event token a b mode next) g = refl
continue_on version s k (step.Refer token number mode next) g = refl
continue_on version s k (step.Open number next) g = refl
continue_on version s k (step.Pi target start next) g = refl
continue_on version s k (step.Close next) g = refl
continue_on version s k (step.Nest version' next) g = refl
continue_on version s k (step.Leave next) g = refl

-- a step passes at least one byte
returns_past : (s : State) (os : List Scope) (next : ℕ) → 0 < length os → s.at < next → s.at < (returned s os next).at
returns_past s [] next d l = absurd (let q : ⊥ = omega arith in q)
returns_past s (o ∷ os) next d l = l

pub passes : (size : ℕ) (room : Room) (s : State) (x : Step) → Goes x → Fine size (view s) room x → s.at < (apply s x).at
passes size room s (step.End place) g f = absurd g
passes size room s (step.Name place units next) g f = f.0
passes size room s (step.Qname uri prefix local next) g f = f.0
passes size room s (step.Skip next) g f = f.0
passes size room s (step.Flush next) g f = f.0
passes size room s (step.Event token a b mode next) g f = f.0
passes size room s (step.Refer token number mode next) g f = f.0
passes size room s (step.Open number next) g f = f.0
passes size room s (step.Pi target start next) g f = f.0
passes size room s (step.Close next) g f = f.0
passes size room s (step.Nest version next) g f = f.0
passes size room s (step.Leave next) g f = returns_past s s.outer next f.2 f.0

-- one step of the machine
pub stepped : (left : ℕ) (doc : List ℕ) (room : Room) (version : ℕ) (s : State) (x : Step) → Ok x ≡ step_at doc (view s) room → Goes x
    → run left doc room version (apply s x) ≡ run (suc left) doc room version s
unfolding run
stepped left doc room version s x e g =
    sym (ap (continued version s (λ t. run left doc room version t)) (sym e) ∙ continue_on version s (λ t. run left doc room version t) x g)

pub stopped : (left : ℕ) (doc : List ℕ) (room : Room) (version : ℕ) (s : State) {x : std.Result Step Refusal} {number place : ℕ} → Halts number place x → x ≡ step_at doc (view s) room
    → result number place version s ≡ run (suc left) doc room version s
unfolding run
stopped left doc room version s ended e = ap (continued version s (λ t. run left doc room version t)) e
stopped left doc room version s refused e = ap (continued version s (λ t. run left doc room version t)) e
