-- The lines of the three tables, as the reading program prints them: the layout is ours (docs/DECISIONS.md, 59).
use Rattle.std.specs.Prelude.{ℕ, ◌%◌, List, [], ◌∷◌, ◌++◌}
use Rattle.hexadecimal.specs.Hexadecimal.{hex}
use Rattle.machine.specs.Machine.{NameRow, QnameRow, EventRow}
use Rattle.print_lines.specs.Lines.{field}

-- "name", "qname", "event "
abbrev pub name_word : List ℕ
name_word = 0x6E ∷ 0x61 ∷ 0x6D ∷ 0x65 ∷ []

abbrev pub qname_word : List ℕ
qname_word = 0x71 ∷ 0x6E ∷ 0x61 ∷ 0x6D ∷ 0x65 ∷ []

abbrev pub event_word : List ℕ
event_word = 0x65 ∷ 0x76 ∷ 0x65 ∷ 0x6E ∷ 0x74 ∷ 0x20 ∷ []

-- ---- rows

-- a space and a number, for each number
abbrev pub numbers : List ℕ → List ℕ
numbers [] = []
numbers (n ∷ l) = field (0x20 ∷ []) n ++ numbers l

-- a word, numbers, and a line feed
abbrev pub row_line : List ℕ → List ℕ → List ℕ
row_line word row = word ++ (numbers row ++ (0x0A ∷ []))

-- a token, which is a byte, in hexadecimal
abbrev pub token_digits : ℕ → List ℕ
token_digits t = hex (t % 256 ∷ [])

-- `name PLACE UNITS`, `qname URI PREFIX LOCAL`, `event TT PLACE A B`
unfoldable pub name_lines : List NameRow → List ℕ
name_lines [] = []
name_lines (r ∷ rs) = row_line name_word (r.place ∷ r.units ∷ []) ++ name_lines rs

unfoldable pub qname_lines : List QnameRow → List ℕ
qname_lines [] = []
qname_lines (r ∷ rs) = row_line qname_word (r.uri ∷ r.prefix ∷ r.local ∷ []) ++ qname_lines rs

unfoldable pub event_lines : List EventRow → List ℕ
event_lines [] = []
event_lines (r ∷ rs) = row_line (event_word ++ token_digits r.token) (r.place ∷ r.a ∷ r.b ∷ []) ++ event_lines rs

-- ---- the whole text

unfoldable pub row_lines : List NameRow → List QnameRow → List EventRow → List ℕ
row_lines names qnames events = name_lines names ++ (qname_lines qnames ++ event_lines events)
