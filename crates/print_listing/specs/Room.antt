-- Serves the code. The bytes of the longest line of each kind, those of the longest text, and the numbers of the list of pairs.
use Rattle.std.specs.Prelude.{ℕ}

abbrev pub first_line : ℕ
first_line = 56

abbrev pub pair_line : ℕ
pair_line = 22

abbrev pub listing_size : ℕ
listing_size = 180280

abbrev pub pair_numbers : ℕ
pair_numbers = 16384
