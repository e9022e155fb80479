-- The bounds of a step, once it is known which it is. Assumes nothing.
use Prim.Native.Nat.{ℕ}
use mathlib.Core.Path.{◌≡◌, subst}
use Rattle.std.specs.Prelude.{Result, Ok}
use Rattle.token.specs.declared.Refusal.{Refusal}
use Rattle.scan.specs.Bounds.{Fine, FineIf}
use Rattle.modes.specs.declared.View.{View}
use Rattle.scan.specs.declared.Room.{Room}
use Rattle.scan.specs.declared.Step.{Step}

pub fine_at : (size : ℕ) (v : View) (room : Room) {s s' : Step} → s ≡ s' → Fine size v room s → Fine size v room s'
fine_at size v room e h = subst (λ (x : Step). Fine size v room x) e h

pub found_at : (size : ℕ) (v : View) (room : Room) {r : Result Step Refusal} {s s' : Step} → r ≡ Ok s → s ≡ s' → FineIf size v room r → Fine size v room s'
found_at size v room g e h = fine_at size v room e (subst (λ (x : Result Step Refusal). FineIf size v room x) g h)
