-- Serves the code. The hash of a list of numbers: a multiply with carry for each, from the first to the last.
use Rattle.std.specs.Prelude.{ℕ, ◌+◌, ◌*◌, ◌/◌, ◌%◌, List, [], ◌∷◌}

-- the low half of a hash is below `word`, and its high half is the carry
abbrev pub word : ℕ
word = 4294967296

abbrev pub multiplier : ℕ
multiplier = 4294957665

abbrev pub mix_of : ℕ → ℕ → ℕ
mix_of h x = (h % word) * multiplier + h / word + x

unfoldable pub hash_from : ℕ → List ℕ → ℕ
hash_from h [] = h
hash_from h (x ∷ l) = hash_from (mix_of h x) l

-- what a hash begins with
abbrev pub seed : ℕ
seed = 88172645463325252

abbrev pub hash_of : List ℕ → ℕ
hash_of l = hash_from seed l
