-- Serves the code. What the search for equal parts is lent and keeps: the hash of each part, the slots and chains of parts with
-- equal slots, and the equal parts after each part.
use Rattle.std.specs.Prelude.{ℕ, suc, ◌+◌, ◌-◌, ◌%◌, ◌≤◌, ◌<◌, ◌≡◌, List, get_or}
use Rattle.sequences.specs.Lists.{same}
use Rattle.hash.specs.Hash.{hash_of}
use Rattle.meaning.specs.Meaning.{Pair, equal_to, pairs_from}
use Rattle.twins.specs.Parts.{values, Next}

-- parts at most, the numbers that bound them, and the slots of their hash table
abbrev pub most_parts : ℕ
most_parts = 2048

abbrev pub part_bounds : ℕ
part_bounds = 2049

abbrev pub part_slots : ℕ
part_slots = 4096

-- the hashes of the first n parts, each one place further: at place 0 stands the hash of what comes before the parts
abbrev pub HashesOf : (ℕ → List ℕ) → ℕ → List ℕ → Type 0
HashesOf m n hashes = (k : ℕ) → k < n → get_or hashes (k + 1) 0 ≡ hash_of (m k)

abbrev pub part_slot : List ℕ → ℕ
part_slot l = hash_of l % part_slots

-- j is the first from i on, below n, at which s is b; or n
pub record Head (s : ℕ → ℕ) (n b i j : ℕ) : Type 0 where
  pub from : i ≤ j
  pub within : j ≤ n
  pub none : (x : ℕ) → i ≤ x → x < j → s x ≡ b → ⊥
  pub hits : j < n → s j ≡ b

-- for each part from i on the next in its slot
pub record PartsChained (m : ℕ → List ℕ) (n i : ℕ) (chain : List ℕ) : Type 0 where
  pub linked : (k : ℕ) → i ≤ k → k < n → Next (λ x. part_slot (m x)) n k (get_or chain k 0)

-- for each part from i on the next that is equal
abbrev pub Nexts : (ℕ → List ℕ) → ℕ → ℕ → List ℕ → Type 0
Nexts m n i next = (k : ℕ) → i ≤ k → k < n → Next m n k (get_or next k 0)

-- the places after i of the parts equal to part i
abbrev pub twins_of : (ℕ → List ℕ) → ℕ → ℕ → List ℕ
twins_of m n i = equal_to same (m i) (suc i) (values m (n - suc i) (suc i))

-- the pairs whose earlier part is i or a later one
abbrev pub pairs_after : (ℕ → List ℕ) → ℕ → ℕ → List Pair
pairs_after m n i = pairs_from same i (values m (n - i) i)
