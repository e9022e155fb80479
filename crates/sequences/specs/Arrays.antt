-- Serves the code. How a stack stands in an array, and what holds of each element of a list.
use Rattle.std.specs.Prelude.{ℕ, ◌≡◌, List, [], ◌∷◌, length, take}

-- a stack kept at the front of an array
abbrev pub Front : List ℕ → List ℕ → Type 0
Front stack l = take (length stack) l ≡ stack

-- each element of a list has a property
pub data Every {A : Type 0} (P : A → Type 0) : List A → Type 0 where
  none : Every P []
  first : {a : A} {l : List A} → P a → Every P l → Every P (a ∷ l)
