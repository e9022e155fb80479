-- Serves the code. The hash of a text, by which its rows are searched.
use Rattle.std.specs.Prelude.{ℕ, List}
use Rattle.sequences.specs.Lists.{units_of}
use Rattle.hash.specs.Hash.{hash_of}

-- that of its units
abbrev pub text_hash : List ℕ → ℕ
text_hash t = hash_of (units_of t)
