-- The loop of reading: the machine's run from the state reached is the run from the start; it never runs out of steps.
-- Assumes nothing.
use Prim.Native.Nat.{ℕ, zero, suc, ◌+◌, ◌≤◌, ◌<◌}
use mathlib.Core.Path.{◌≡◌, refl, sym, ◌∙◌, subst}
use mathlib.Core.List.{List}
use native.Mathlib.Omega.{arith}
use lib.ListN.{length}
use Rattle.std.specs.Prelude.{Ok}
use Rattle.std.specs.Prelude as std
use Rattle.token.specs.declared.Refusal.{Refusal}
use Rattle.scan.specs.Bounds.{Fine, FineIf}
use Rattle.scan.specs.Steps.{step_at}
use Rattle.modes.specs.declared.View.{View}
use Rattle.scan.specs.declared.Room.{Room}
use Rattle.scan.specs.declared.Step.{Step}
use Rattle.scan.specs.declared.Step.TheVariants as step
use Rattle.machine.specs.Machine.{State, view, apply, Result, result, run, started, Reads}
use Rattle.rows.specs.declared.Stacks.{Stacks}
use Rattle.rows.specs.Tables.{Tables, tables, answer_at, Turned, TurnedIf, Held, ReadingBegins}
use Rattle.steps.proofs.Keeps.{Stored, Kept, keep, same_lengths}
use Rattle.machine.proofs.Goes.{Goes, Halts, passes, stepped, stopped}

-- a step whose tag is not that of `End`
pub goes : (x : Step) → ((place : ℕ) → x ≡ step.End place → ⊥) → Goes x
goes (step.End place) h = absurd (h place refl)
goes (step.Name place units next) h = tt
goes (step.Qname uri prefix local next) h = tt
goes (step.Skip next) h = tt
goes (step.Flush next) h = tt
goes (step.Event token a b mode next) h = tt
goes (step.Refer token number mode next) h = tt
goes (step.Open number next) h = tt
goes (step.Pi target start next) h = tt
goes (step.Close next) h = tt
goes (step.Nest version next) h = tt
goes (step.Leave next) h = tt

-- a step that was found
pub fine_ok : (size : ℕ) (v : View) (room : Room) {r : std.Result Step Refusal} {x : Step} → r ≡ Ok x → FineIf size v room r → Fine size v room x
fine_ok size v room e f = subst (λ (y : std.Result Step Refusal). FineIf size v room y) e f

pub turned_ok : {t t' : Tables} {v w : View} {r : std.Result Step Refusal} {x : Step} → r ≡ Ok x → TurnedIf t t' v r w → Turned t t' v x w
turned_ok {t} {t'} {v} {w} e u = subst (λ (y : std.Result Step Refusal). TurnedIf t t' v y w) e u

-- what holds at each turn of the loop
pub record Walks (doc : List ℕ) (room : Room) (version : ℕ) (end : Result) (n₀ q₀ e₀ : List ℕ) (t : Tables) (v : View) : Type 0 where
  pub s : State
  pub left : ℕ
  pub same : run left doc room version s ≡ end
  pub enough : length doc < s.at + left
  pub seen : v ≡ view s
  pub stored : Stored n₀ q₀ e₀ s t
  pub held : Held (length doc) room t (view s)
  pub names_long : length t.names ≡ length n₀
  pub qnames_long : length t.qnames ≡ length q₀
  pub events_long : length t.events ≡ length e₀

module _ {doc : List ℕ} {room : Room} {version : ℕ} {end : Result} {n₀ q₀ e₀ : List ℕ} {t : Tables} {v : View}
    (w : Walks doc room version end n₀ q₀ e₀ t v) where
  pub held_here : Held (length doc) room t v
  held_here = rw w.seen w.held

  pub going : {t' : Tables} {r : View} (x : Step) → Ok x ≡ step_at doc v room → Goes x → Fine (length doc) v room x → Turned t t' v x r
      → Walks doc room version end n₀ q₀ e₀ t' r
  going {t'} {r} x e g f u = by_fuel w.left w.same w.enough
    where
      k : Kept n₀ q₀ e₀ (length doc) room (apply w.s x) t' r
      k = keep w.stored w.held x g (subst (λ (y : View). Fine (length doc) y room x) w.seen f) (subst (λ (y : View). Turned t t' y x r) w.seen u)

      by_fuel : (left : ℕ) → run left doc room version w.s ≡ end → length doc < w.s.at + left → Walks doc room version end n₀ q₀ e₀ t' r
      by_fuel zero same enough = absurd (let i = w.held.at_in in let q : ⊥ = omega arith in q)
      by_fuel (suc left) same enough =
          let p = passes (length doc) room w.s x g (subst (λ (y : View). Fine (length doc) y room x) w.seen f) in
          let e' : Ok x ≡ step_at doc (view w.s) room = rw w.seen at e in
          record {
            s = apply w.s x;
            left = left;
            same = stepped left doc room version w.s x e' g ∙ same;
            enough = omega arith;
            seen = k.seen;
            stored = k.stored;
            held = k.held;
            names_long = (same_lengths u).names ∙ w.names_long;
            qnames_long = (same_lengths u).qnames ∙ w.qnames_long;
            events_long = (same_lengths u).events ∙ w.events_long;
          }

  -- fewer bytes are left
  pub nearer : {t' : Tables} {r : View} (x : Step) → Goes x → Fine (length doc) v room x → Turned t t' v x r → (v.at < r.at) × (r.at ≤ length doc)
  nearer {t'} {r} x g f u =
      let f' = subst (λ (y : View). Fine (length doc) y room x) w.seen f in
      let k = keep w.stored w.held x g f' (subst (λ (y : View). Turned t t' y x r) w.seen u) in
      let p = passes (length doc) room w.s x g f' in
      let h = k.held.at_in in
      rw (w.seen, k.seen) (p, h)

  -- the machine stops: the answer and the tables are those of the state reached
  pub ending : (number place : ℕ) {x y : std.Result Step Refusal} → Halts number place y → x ≡ step_at doc v room → x ≡ y
      → Reads end n₀ q₀ e₀ t.names t.qnames t.events
      (answer_at v number place version)
  ending number place {x} {y} h e g = by_fuel w.left w.same w.enough
    where
      by_fuel : (left : ℕ) → run left doc room version w.s ≡ end → length doc < w.s.at + left
          → Reads end n₀ q₀ e₀ t.names t.qnames t.events
          (answer_at v number place version)
      by_fuel zero same enough = absurd (let i = w.held.at_in in let q : ⊥ = omega arith in q)
      by_fuel (suc left) same enough =
          let e' : y ≡ step_at doc (view w.s) room = rw w.seen at (sym g ∙ e) in
          let is : result number place version w.s ≡ end = stopped left doc room version w.s h e' ∙ same in
          rw (← is, w.seen)
          (record { answer_is = refl; names_are = w.stored.names_are; qnames_are = w.stored.qnames_are; events_are = w.stored.events_are })

-- before the first step
pub starting : (doc : List ℕ) (room : Room) (version next : ℕ) (n₀ q₀ e₀ : List ℕ) (stacks : Stacks) → ReadingBegins (length doc) room n₀ q₀ e₀ next
    → length stacks.names ≡ 1024 → length stacks.qnames ≡ 1024 → length stacks.frames ≡ 8
    → Walks doc room version (run (suc (length doc)) doc room version (started version next)) n₀ q₀ e₀ (tables n₀ q₀ e₀ stacks) (view (started version next))
starting doc room version next n₀ q₀ e₀ stacks b ls lq lf =
    record {
      s = started version next;
      left = suc (length doc);
      same = refl;
      enough = omega arith;
      seen = refl;
      stored = record { names_are = refl; qnames_are = refl; events_are = refl; stack_is = refl; qstack_is = refl; frames_are = refl };
      held = omega arith;
      names_long = refl;
      qnames_long = refl;
      events_long = refl;
    }
