-- Serves the code. The size of the small buffer that a text is made in.
use Rattle.std.specs.Prelude.{ℕ}

-- its units and its bytes: as many as a number's text has at most (01, "Text of a value")
abbrev pub small_units : ℕ
small_units = 41

abbrev pub small_bytes : ℕ
small_bytes = 82
