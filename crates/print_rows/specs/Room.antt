-- Serves the code. The bytes of the longest line of an event, and the places up to which the line of the answer, the lines before
-- the events and all lines reach where every line is as long as it can be.
use Rattle.std.specs.Prelude.{ℕ}

abbrev pub answer_end : ℕ
answer_end = 155

abbrev pub event_line : ℕ
event_line = 42

abbrev pub qnames_end : ℕ
qnames_end = 67739

abbrev pub rows_end : ℕ
rows_end = 239771
