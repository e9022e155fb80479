-- Pairs with one earlier place. Assumes nothing.
use Prim.Native.Nat.{ℕ}
use mathlib.Core.Path.{◌≡◌, ap}
use mathlib.Core.Logic.{⊎_elim}
use mathlib.Core.List.{List, [], ◌∷◌, map}
use Rattle.sequences.specs.Lists.{In, there}
use Rattle.sequences.proofs.Members.{in_none, in_cons, in_first}
use Rattle.meaning.specs.Meaning.{Pair, pair}

pub pair_in : (i j : ℕ) (xs : List ℕ) → In j xs → In (pair i j) (map (pair i) xs)
pair_in i j [] w = absurd (in_none w)
pair_in i j (x ∷ xs) w = next (pair_in i j xs)
  where
    next : (In j xs → In (pair i j) (map (pair i) xs)) → In (pair i j) (map (pair i) (x ∷ xs))
    next f = ⊎_elim (λ (z : j ≡ x). in_first (ap (pair i) z)) (λ v. there (f v)) (in_cons w)

pub pair_is : (i : ℕ) (q : Pair) (xs : List ℕ) → In q (map (pair i) xs) → (q.earlier ≡ i) × In q.later xs
pair_is i q [] w = absurd (in_none w)
pair_is i q (x ∷ xs) w = next (pair_is i q xs)
  where
    next : (In q (map (pair i) xs) → (q.earlier ≡ i) × In q.later xs) → (q.earlier ≡ i) × In q.later (x ∷ xs)
    next f = ⊎_elim
        (λ (z : q ≡ pair i x). (ap (λ (y : Pair). y.earlier) z, in_first (ap (λ (y : Pair). y.later) z)))
        (λ v. let r = f v in (r.0, there r.1))
        (in_cons w)
