-- Laws of the elements of a list. Assumes nothing.
use Prim.Native.Nat.{ℕ, zero, suc, ◌<◌}
use mathlib.Core.Path.{◌≡◌, refl}
use mathlib.Core.Logic.{◌⊎◌, inl, inr, ⊎_elim}
use mathlib.Core.List.{List, [], ◌∷◌, ◌++◌}
use native.Mathlib.Omega.{arith}
use lib.ListN.{length, get_or}
use Rattle.sequences.specs.Lists.{In, here, there}
use Rattle.sequences.specs.Arrays.{Every, none, first}

-- ---- each element has a property

pub every_append : {A : Type 0} {P : A → Type 0} {l m : List A} → Every P l → Every P m → Every P (l ++ m)
every_append none k = k
every_append (first p h) k = first p (every_append h k)

pub every_weaken : {A : Type 0} {P Q : A → Type 0} {l : List A} → ((a : A) → P a → Q a) → Every P l → Every Q l
every_weaken f none = none
every_weaken f (first {a = a} p h) = first (f a p) (every_weaken f h)

pub every_get_d : {P : ℕ → Type 0} {l : List ℕ} → Every P l → (k : ℕ) → k < length l → P (get_or l k 0)
every_get_d none k i = absurd (let q : ⊥ = omega arith in q)
every_get_d (first p h) zero i = p
every_get_d (first p h) (suc k) i = every_get_d h k (omega arith)

-- ---- an element stands in a list

size : {A : Type 0} {x : A} {l : List A} → In x l → 0 < length l
size here = omega arith
size (there i) = omega arith

pub in_none : {A : Type 0} {x : A} → In x [] → ⊥
in_none i = let h = size i in omega arith

pub in_cons : {A : Type 0} {x y : A} {l : List A} → In x (y ∷ l) → (x ≡ y) ⊎ In x l
in_cons here = inl refl
in_cons (there i) = inr i

pub in_first : {A : Type 0} {x y : A} {l : List A} → x ≡ y → In x (y ∷ l)
in_first e = rw e here

pub in_left : {A : Type 0} {x : A} {a : List A} (b : List A) → In x a → In x (a ++ b)
in_left b here = here
in_left b (there i) = there (in_left b i)

pub in_right : {A : Type 0} {x : A} (a : List A) {b : List A} → In x b → In x (a ++ b)
in_right [] i = i
in_right (y ∷ a) i = there (in_right a i)

pub in_either : {A : Type 0} {x : A} (a b : List A) → In x (a ++ b) → In x a ⊎ In x b
in_either [] b i = inr i
in_either (y ∷ a) b here = inl here
in_either (y ∷ a) b (there i) = ⊎_elim (λ j. inl (there j)) (λ j. inr j) (in_either a b i)
