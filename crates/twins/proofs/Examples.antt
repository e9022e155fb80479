-- Three parts of one array, and the pairs of equal ones. Assumes nothing.
use mathlib.Core.Path.{◌≡◌, refl}
use mathlib.Core.List.{[], ◌∷◌}
use Rattle.sequences.specs.Lists.{same}
use Rattle.meaning.specs.Meaning.{equal_to, pairs_from, pairs_of, flat_pairs}
use Rattle.twins.specs.Parts.{values, parts_of}

pub three_parts : parts_of (7 ∷ 8 ∷ 9 ∷ 7 ∷ 8 ∷ []) (0 ∷ 2 ∷ 3 ∷ 5 ∷ []) 3 ≡ (7 ∷ 8 ∷ []) ∷ (9 ∷ []) ∷ (7 ∷ 8 ∷ []) ∷ []
unfolding parts_of values
three_parts = refl

pub one_pair : flat_pairs (pairs_of same (parts_of (7 ∷ 8 ∷ 9 ∷ 7 ∷ 8 ∷ []) (0 ∷ 2 ∷ 3 ∷ 5 ∷ []) 3)) ≡ 0 ∷ 2 ∷ []
unfolding parts_of values pairs_of pairs_from equal_to
one_pair = refl
