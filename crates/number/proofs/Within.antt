-- A number that was read lies inside the document. Assumes nothing.
use Prim.Native.Nat.{ℕ, zero, suc, ◌+◌, ◌≤◌, ◌<◌}
use mathlib.Core.Path.{◌≡◌, refl, sym, subst}
use mathlib.Core.Bool.{Bool, true, false, cond}
use mathlib.Core.List.{List, [], ◌∷◌}
use native.Mathlib.Omega.{arith}
use lib.Dec.{ltb, leb}
use lib.ListN.{length, drop, length-drop}
use borrow.Author.Tests.{leb-true}
use Rattle.std.specs.Prelude.{Result, Ok, Err}
use Rattle.token.specs.Tokens.{largest}
use Rattle.token.specs.Faults.{refusal}
use Rattle.token.specs.declared.Fault.TheVariants.{BadNumber}
use Rattle.token.specs.declared.Refusal.{Refusal}
use Rattle.number.specs.Number.{NumberFront, spelled, unended, cut, after, front, number, number_judged, number_at}
use Rattle.number.specs.Bounds.{Within}
use Rattle.number.specs.declared.Number.{Number}

-- a spelling has a byte, and no more bytes than there are
abbrev Fits : ℕ → NumberFront → Type 0
Fits n (spelled value size) = (1 ≤ size) × (size ≤ n)
Fits n unended = Unit
Fits n cut = Unit

after_fits : (n b : ℕ) (f : NumberFront) → Fits n f → Fits (suc n) (after b f)
after_fits n b (spelled value size) h = omega arith
after_fits n b unended h = tt
after_fits n b cut h = tt

front_fits : (most : ℕ) (l : List ℕ) → Fits (length l) (front most l)
unfolding front
front_fits zero l = tt
front_fits (suc most) [] = tt
front_fits (suc most) (b ∷ l) = go (ltb b 128) (after_fits (length l) b (front most l) (front_fits most l))
  where
    go : (t : Bool) → Fits (suc (length l)) (after b (front most l)) → Fits (suc (length l)) (cond t (spelled b 1) (after b (front most l)))
    go true h = omega arith
    go false h = h

pub number_within : (most : ℕ) (doc : List ℕ) (at : ℕ) → Within (length doc) at (number_at most doc at)
unfolding number_at
number_within most doc at = go (front most (drop at doc)) (front_fits most (drop at doc))
  where
    in_bounds : (t : Bool) (value size : ℕ) → t ≡ leb value largest → (1 ≤ size) × (size ≤ length (drop at doc))
        → Within (length doc) at (cond t (Ok (number value (at + size))) (Err (refusal BadNumber at)))
    in_bounds true value size t h = let d = length-drop at doc in (omega arith, omega arith, leb-true value largest (sym t))
    in_bounds false value size t h = tt

    go : (f : NumberFront) → Fits (length (drop at doc)) f → Within (length doc) at (number_judged doc at f)
    go (spelled value size) h = in_bounds (leb value largest) value size refl h
    go unended h = tt
    go cut h = tt

pub is_within : (size at : ℕ) {r : Result Number Refusal} {n : Number} → r ≡ Ok n → Within size at r → (at < n.next) × (n.next ≤ size) × (n.value ≤ largest)
is_within size at e h = subst (λ (x : Result Number Refusal). Within size at x) e h
