-- Serves the code. The bytes of the longest value text, and those of the longest text that is printed.
use Rattle.std.specs.Prelude.{ℕ}

abbrev pub text_room : ℕ
text_room = 262226

abbrev pub value_size : ℕ
value_size = 524483
