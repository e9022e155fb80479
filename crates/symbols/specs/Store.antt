-- Serves the code. Numbers stored one after the other in a lent array, and their hash.
use Rattle.std.specs.Prelude.{ℕ, ◌+◌, ◌<◌, ◌≡◌, List, length, get_or}
use Rattle.std.proofs.lemmas.List.Edits.{sets}
use Rattle.hash.specs.Hash.{hash_from}
use Rattle.symbols.specs.declared.Cursor.{Cursor}

-- `xs` stands from place `at` on; `to` is the place after it
pub record NumbersPut (before : List ℕ) (at : ℕ) (xs after : List ℕ) (to : ℕ) : Type 0 where
  pub stored : after ≡ sets before at xs
  pub to_is : to ≡ at + length xs

-- the same, with the hash of what was written
pub record PutHashed (before : List ℕ) (p : Cursor) (xs after : List ℕ) (r : Cursor) : Type 0 where
  pub put : NumbersPut before p.at xs after r.at
  pub hash_is : r.hash ≡ hash_from p.hash xs

-- each call at a place below `count` gives the number there, by what is known of its result
pub record Gives (post : ℕ → ℕ → Type 0) (count : ℕ) (numbers : List ℕ) : Type 0 where
  pub long : count ≡ length numbers
  pub each : (k x : ℕ) → k < count → post k x → x ≡ get_or numbers k 0
