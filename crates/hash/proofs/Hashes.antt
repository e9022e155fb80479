-- The hash of two lists joined. Assumes nothing.
use Prim.Native.Nat.{ℕ}
use mathlib.Core.Path.{◌≡◌, refl}
use mathlib.Core.List.{List, [], ◌∷◌, ◌++◌}
use Rattle.hash.specs.Hash.{mix_of, hash_from}

pub hash_append : (h : ℕ) (xs ys : List ℕ) → hash_from h (xs ++ ys) ≡ hash_from (hash_from h xs) ys
unfolding hash_from
hash_append h [] ys = refl
hash_append h (x ∷ xs) ys = hash_append (mix_of h x) xs ys
