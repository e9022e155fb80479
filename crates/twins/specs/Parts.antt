-- Serves the code. The parts of one array of numbers, and for each the next that is equal.
use Rattle.std.specs.Prelude.{ℕ, zero, suc, ◌+◌, ◌-◌, ◌≤◌, ◌<◌, ◌≡◌, List, [], ◌∷◌, length, get_or, take, drop}

-- part k: from starts[k] to starts[k + 1]
abbrev pub part_at : List ℕ → List ℕ → ℕ → List ℕ
part_at syms starts k = take (get_or starts (k + 1) 0 - get_or starts k 0) (drop (get_or starts k 0) syms)

-- m k, m (k + 1), .. : so many values
unfoldable pub values : {A : Type 0} → (ℕ → A) → ℕ → ℕ → List A
values m zero k = []
values m (suc f) k = m k ∷ values m f (suc k)

-- the first n parts
unfoldable pub parts_of : List ℕ → List ℕ → ℕ → List (List ℕ)
parts_of syms starts n = values (part_at syms starts) n 0

-- n parts, one after the other, within the array
pub record Cut (syms starts : List ℕ) (n : ℕ) : Type 0 where
  pub room : n + 1 ≤ length starts
  pub order : (k : ℕ) → k < n → get_or starts k 0 ≤ get_or starts (k + 1) 0
  pub inside : get_or starts n 0 ≤ length syms

-- j is the first after i, below n, at which m has the same value as at i; or n if there is none
pub record Next {A : Type 0} (m : ℕ → A) (n i j : ℕ) : Type 0 where
  pub after : i < j
  pub within : j ≤ n
  pub none : (x : ℕ) → i < x → x < j → m i ≡ m x → ⊥
  pub twin : j < n → m i ≡ m j

-- next[k] is the first later place with an equal part, or the number of parts
pub record Linked (ms : List (List ℕ)) (next : List ℕ) : Type 0 where
  pub each : (k : ℕ) → k < length ms → Next (λ x. get_or ms x []) (length ms) k (get_or next k 0)
