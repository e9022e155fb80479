-- What is known at the last arm, `_`, of a `match` on a number. Assumes nothing.
use Prim.Native.Nat.{ℕ, zero, suc, ◌<◌}
use mathlib.Core.Path.{◌≡◌, subst}
use mathlib.Core.Bool.{Bool, true, false, ◌||◌}
use mathlib.Core.List.{List, [], ◌∷◌}
use lib.Dec.{T, eqb, eqb_refl}
use types.Run.{OneOf}
use mathlib.Core.Logic.{◌⊎◌, inl, inr}
use native.Mathlib.Decide.{ℕ_discrete}
use native.Mathlib.Omega.{arith}

-- past the keys 1 to n, in that order
abbrev pub NoneTo : ℕ → ℕ → Type 0
NoneTo zero x = Unit {0}
NoneTo (suc n) x = NoneTo n x × (x ≡ suc n → ⊥)

pub past_keys : (n x : ℕ) → NoneTo n x → (x ≡ 0) ⊎ (n < x)
past_keys zero x h = first (ℕ_discrete x 0)
  where
    first : Dec (x ≡ 0) → (x ≡ 0) ⊎ (0 < x)
    first (yes e) = inl e
    first (no e) = inr (omega arith)
past_keys (suc n) x h = next (past_keys n x h.0)
  where
    next : (x ≡ 0) ⊎ (n < x) → (x ≡ 0) ⊎ (suc n < x)
    next (inl e) = inl e
    next (inr l) = let k : x ≡ suc n → ⊥ = h.1 in inr (omega arith)

-- the arms that are left of a `match` or an `if let` on an enum: its tag is one of some numbers
abbrev pub among : List ℕ → ℕ → Bool
among [] x = false
among (k ∷ ks) x = eqb x k || among ks x

or_left : (a b : Bool) → T a → T (a || b)
or_left true b h = tt
or_left false b h = absurd h

or_right : (a b : Bool) → T b → T (a || b)
or_right true b h = tt
or_right false b h = h

same : (x k : ℕ) → x ≡ k → T (eqb x k)
same x k e = subst (λ (j : ℕ). T (eqb x j)) e (eqb_refl x)

pub one_of : (ks : List ℕ) (x : ℕ) → OneOf ks x → T (among ks x)
one_of [] x h = h
one_of (k ∷ []) x h = or_left (eqb x k) false (same x k h)
one_of (k ∷ (j ∷ ks)) x (inl h) = or_left (eqb x k) (among (j ∷ ks) x) (same x k h)
one_of (k ∷ (j ∷ ks)) x (inr h) = or_right (eqb x k) (among (j ∷ ks) x) (one_of (j ∷ ks) x h)
