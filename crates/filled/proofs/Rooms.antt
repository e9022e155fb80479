-- A reading, accepted or refused, stops inside the document with no more rows than there is room for. Assumes nothing.
use Prim.Native.Nat.{ℕ, ◌≤◌, ◌<◌}
use mathlib.Core.Path.{◌≡◌, refl, ap, ◌∙◌}
use mathlib.Core.Bool.{Bool, true, false}
use mathlib.Core.List.{List, [], ◌∷◌, ◌++◌}
use native.Mathlib.Omega.{arith}
use lib.Dec.{ltb}
use lib.ListN.{length, length-append}
use borrow.Author.Tests.{ltb-true, ltb-false}
use Rattle.token.specs.Tokens.{longest}
use Rattle.scan.specs.Bounds.{Fine}
use Rattle.scan.specs.declared.Room.{Room}
use Rattle.scan.specs.declared.Step.{Step}
use Rattle.scan.specs.declared.Step.TheVariants as step
use Rattle.scan.proofs.Fine.{found_fine}
use Rattle.machine.specs.Machine.{Scope, State, view, returned, apply, started, Result, reading}
use Rattle.machine.proofs.Goes.{Goes}
use Rattle.machine.proofs.Trace.{kept}
use Rattle.machine.proofs.Readings.{by_reading}
use Rattle.machine.proofs.Whole.{too_long_fact}
use Rattle.grammar.specs.Grammar.{Point, Depth, Document, document}
use Rattle.grammar.proofs.Steps.{Fits}
use Rattle.grammar.proofs.Exact.{accepted_derives}

one_more : {A : Type 0} (l : List A) (a : A) {n : ℕ} → length l < n → length (l ++ (a ∷ [])) ≤ n
one_more l a {n} h = simp length-append (omega arith)

-- a step that adds a row had room for it
fits_step : (size : ℕ) (room : Room) (s : State) (x : Step) → Goes x → Fine size (view s) room x → Fits room s → Fits room (apply s x)
fits_step size room s (step.End place) g f i = absurd g
fits_step size room s (step.Name place units next) g f i =
    record { names = one_more s.names _ f.3; qnames = i.qnames; events = i.events }
fits_step size room s (step.Qname uri prefix local next) g f i =
    record { names = i.names; qnames = one_more s.qnames _ f.5; events = i.events }
fits_step size room s (step.Skip next) g f i = record { names = i.names; qnames = i.qnames; events = i.events }
fits_step size room s (step.Flush next) g f i = record { names = i.names; qnames = i.qnames; events = i.events }
fits_step size room s (step.Event token a b m next) g f i =
    record { names = i.names; qnames = i.qnames; events = one_more s.events _ f.4 }
fits_step size room s (step.Refer token number m next) g f i =
    record { names = i.names; qnames = i.qnames; events = one_more s.events _ f.4 }
fits_step size room s (step.Open number next) g f i =
    record { names = i.names; qnames = i.qnames; events = one_more s.events _ f.5 }
fits_step size room s (step.Pi target start next) g f i =
    record { names = i.names; qnames = i.qnames; events = one_more s.events _ f.4 }
fits_step size room s (step.Close next) g f i =
    record { names = i.names; qnames = i.qnames; events = one_more s.events _ f.3 }
fits_step size room s (step.Nest version next) g f i =
    record { names = i.names; qnames = i.qnames; events = one_more s.events _ f.5 }
fits_step size room s (step.Leave next) g f i = go s.outer
  where
    go : (os : List Scope) → Fits room (returned s os next)
    go [] = i
    go (o ∷ os) = record { names = i.names; qnames = i.qnames; events = one_more s.events _ f.4 }

header_version : {doc : List ℕ} {m : Depth} {version : ℕ} {s t : Point} → Document doc m version s t → version ≤ 2
header_version (document h a b c d) = h.version_high

fits_none : (room : Room) (version next : ℕ) → Fits room (started version next)
fits_none room version next = record { names = omega arith; qnames = omega arith; events = omega arith }

module _ (doc : List ℕ) (room : Room) where
  -- the rows completed are within the room
  pub rows_few : Fits room (reading doc room).final
  rows_few =
      by_reading doc room (λ (r : Result). Fits room r.final) (λ number place l. fits_none room 0 0)
      (λ version next w. kept doc room (Fits room) (λ s x i g q. fits_step (length doc) room s x g (found_fine doc (view s) room q) i)
      w.trace (fits_none room version next))

  -- reading stops inside the document
  pub stops_inside : (reading doc room).final.at ≤ length doc
  stops_inside =
      by_reading doc room (λ (r : Result). r.final.at ≤ length doc) (λ number place l. let h : 0 ≤ length doc = omega arith in h)
      (λ version next w. w.within)

  -- an accepted document is not too long
  pub accepted_short : (reading doc room).number ≡ 0 → length doc ≤ 65536
  accepted_short e = go (ltb longest (length doc)) refl
    where
      go : (b : Bool) → ltb longest (length doc) ≡ b → length doc ≤ 65536
      go false h = ltb-false _ _ h
      go true h = absurd (
          let i = ap (λ (r : Result). r.number) (too_long_fact doc room (ltb-true _ _ h)) in
          let z : 1 ≡ 0 = i ∙ e in
          let q : ⊥ = omega arith in
          q)

  -- an accepted document is of version 1 or 2
  pub version_low : (reading doc room).number ≡ 0 → (reading doc room).version ≤ 2
  version_low e = header_version (accepted_derives doc room e).derived
