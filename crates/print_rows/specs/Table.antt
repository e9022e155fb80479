-- Serves the code. The lines of a table whose rows are so many numbers, one definition for names and for qnames.
use Rattle.std.specs.Prelude.{ℕ, zero, suc, ◌+◌, ◌*◌, List, [], ◌++◌, length, take, drop}
use Rattle.print_rows.specs.Rows.{row_line}

-- the lines of so many rows
abbrev pub table_lines : List ℕ → ℕ → ℕ → List ℕ → List ℕ
table_lines word width zero table = []
table_lines word width (suc rows) table = row_line word (take width table) ++ table_lines word width rows (drop width table)

-- the bytes of the longest line: the word, a space and ten digits for each number, a line feed
abbrev pub line_room : List ℕ → ℕ → ℕ
line_room word width = length word + (1 + 11 * width)
