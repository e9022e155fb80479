-- A derivation of a whole document is a walk to where reading stops, and a walk has only one such end. Assumes nothing.
use Prim.Native.Nat.{ℕ, ◌+◌, ◌≤◌, ◌<◌}
use mathlib.Core.Path.{◌≡◌, refl, sym, ◌∙◌, subst}
use mathlib.Core.Bool.{true}
use mathlib.Core.List.{List, [], ◌∷◌}
use native.Mathlib.Omega.{arith}
use lib.ListN.{length}
use borrow.Author.Tests.{le-ltb}
use Rattle.std.specs.Prelude.{Result, Ok}
use Rattle.token.specs.declared.Refusal.{Refusal}
use Rattle.modes.specs.Modes.{content}
use Rattle.scan.specs.Steps.{end_step, step_at}
use Rattle.modes.specs.declared.Mode.{Mode}
use Rattle.modes.specs.declared.Mode.TheVariants as mode
use Rattle.scan.specs.declared.Room.{Room}
use Rattle.scan.specs.declared.Step.{Step}
use Rattle.scan.specs.declared.Step.TheVariants as step
use Rattle.machine.specs.Machine.{Scope, State, elements_in, apply, started}
use Rattle.machine.proofs.Goes.{Goes, Halts, goes_halts}
use Rattle.grammar.specs.Grammar.{Point, before_header, Depth, HeaderBytes, Document}
use Rattle.grammar.proofs.Steps.{state_of, Fits, look, Path, none, by}
use Rattle.grammar.proofs.Complete.{reads}

-- ---- one end

not_stop : (x : Step) {y : Result Step Refusal} {n p : ℕ} → Goes x → Halts n p y → y ≡ Ok x → ⊥
not_stop x {n = n} {p} g h e = goes_halts x g (subst (λ (z : Result Step Refusal). Halts n p z) e h)

same_step : {x y : Step} → ◌≡◌ {A = Result Step Refusal} (Ok x) (Ok y) → x ≡ y
same_step e = cc

module _ (opened : ℕ → List Scope → ℕ) (nested : List Scope → ℕ) (doc : List ℕ) (room : Room) where
  pub same_end : {s f g : State} {n p k q : ℕ} {x y : Result Step Refusal} → Path opened nested doc room s f → Path opened nested doc room s g
      → Halts n p x → x ≡ step_at doc (look opened nested doc room f) room → Halts k q y → y ≡ step_at doc (look opened nested doc room g) room → f ≡ g
  same_end none none h a k b = refl
  same_end none (by x g e t) h a k b = absurd (not_stop x g h (a ∙ sym e))
  same_end (by x g e t) none h a k b = absurd (not_stop x g k (b ∙ sym e))
  same_end {g = g} (by {s = s} x l e t) (by y i j u) h a k b =
      same_end t (subst (λ (z : Step). Path opened nested doc room (apply s z) g) (same_step (j ∙ sym e)) u) h a k b

  -- at the end of the document, nothing open
  pub end_step_fact : nested [] ≡ 0 → (u : Point) (m : Mode) → content m ≡ true → u.at ≡ length doc
      → Ok (step.End (length doc)) ≡ step_at doc (look opened nested doc room (state_of u m 0 [])) room
  unfolding step_at end_step
  end_step_fact z u m c l =
      let h : length doc ≤ u.at = omega arith in
      rw (le-ltb u.at (length doc) h, z, c)

-- ---- the walk of a whole document

-- where it ends
pub record Reaches (opened : ℕ → List Scope → ℕ) (nested : List Scope → ℕ) (doc : List ℕ) (room : Room) (version : ℕ) (u : Point) : Type 0 where
  pub last : Mode
  pub header : HeaderBytes doc 0 version
  pub path : Path opened nested doc room (started version 5) (state_of u last 0 [])
  pub stop : Ok (step.End (length doc)) ≡ step_at doc (look opened nested doc room (state_of u last 0 [])) room

-- with reading's limits
record Fit (d : Depth) (e : ℕ) (os : List Scope) : Type 0 where
  elements : d.elements + (elements_in os + e) ≤ 64
  nested : d.nested + length os ≤ 8

abbrev pub all_open : ℕ → List Scope → ℕ
all_open e os = elements_in os + e

abbrev pub all_nested : List Scope → ℕ
all_nested os = length os

pub limited : (doc : List ℕ) (room : Room) {d : Depth} {version : ℕ} {u : Point} → Document doc d version before_header u → u.at ≡ length doc → d.elements ≤ 64 → d.nested ≤ 8
    → Fits room (state_of u mode.Content 0 []) → Reaches all_open all_nested doc room version u
limited doc room {d} {version} {u} x l a b f =
    let r = reads all_open all_nested Fit
    (λ d n e os h. let i = h.elements in let j = h.nested in record { elements = omega arith; nested = omega arith })
    (λ d n e os h. let i = h.elements in let j = h.nested in record { elements = omega arith; nested = omega arith })
    (λ d e os h. let i = h.elements in let j = h.nested in (omega arith, record { elements = omega arith; nested = omega arith }))
    (λ d o os h. let i = h.elements in let j = h.nested in (omega arith, record { elements = omega arith; nested = omega arith }))
    (λ o os. omega arith) doc room x in
    let w = r.from [] (record { elements = omega arith; nested = omega arith }) in
    record {
      last = w.last;
      header = r.header;
      path = w.reach.steps (record { names = f.names; qnames = f.qnames; events = f.events });
      stop = end_step_fact all_open all_nested doc room refl u w.last w.good l;
    }

-- with none: no element and at most one nested document is ever counted
abbrev pub nothing_open : ℕ → List Scope → ℕ
nothing_open e os = 0

abbrev pub some_nested : List Scope → ℕ
some_nested [] = 0
some_nested (o ∷ os) = 1

some_few : (os : List Scope) → some_nested os < 8
some_few [] = omega arith
some_few (o ∷ os) = omega arith

pub unlimited : (doc : List ℕ) (room : Room) {d : Depth} {version : ℕ} {u : Point} → Document doc d version before_header u → u.at ≡ length doc
    → Fits room (state_of u mode.Content 0 []) → Reaches nothing_open some_nested doc room version u
unlimited doc room {u = u} x l f =
    let r = reads nothing_open some_nested (λ d e os. Unit) (λ d n e os h. tt) (λ d n e os h. tt) (λ d e os h. (omega arith, tt)) (λ d o os h. (some_few os, tt))
    (λ o os. omega arith) doc room x in
    let w = r.from [] tt in
    record {
      last = w.last;
      header = r.header;
      path = w.reach.steps (record { names = f.names; qnames = f.qnames; events = f.events });
      stop = end_step_fact nothing_open some_nested doc room refl u w.last w.good l;
    }
