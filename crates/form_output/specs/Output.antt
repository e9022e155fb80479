-- Serves the code. Bytes laid into a lent output from a place on. An output that ends at or before the place takes none of
-- them: so one function serves to measure and to write.
use Rattle.std.specs.Prelude.{ℕ, ◌+◌, ◌≤◌, ◌≡◌, ◌⊎◌, List, length}
use Rattle.std.proofs.lemmas.List.Edits.{sets}

-- places up to which bytes and numbers, names, qnames and a whole item are put: far past any output, so that no sum wraps
abbrev pub far_bytes : ℕ
far_bytes = 1099511627776

abbrev pub far_names : ℕ
far_names = 1000000000000

abbrev pub far_qnames : ℕ
far_qnames = 900000000000

abbrev pub far_items : ℕ
far_items = 800000000000

-- so many bytes from a place on lie all past an output of this room, or all in it
abbrev pub Fits : ℕ → ℕ → ℕ → Type 0
Fits room at size = (room ≤ at) ⊎ (at + size ≤ room)

-- the place after the bytes, and the output; `sets` changes nothing past the end
pub record Put (before after : List ℕ) (at next : ℕ) (bytes : List ℕ) : Type 0 where
  pub past : next ≡ at + length bytes
  pub laid : after ≡ sets before at bytes
