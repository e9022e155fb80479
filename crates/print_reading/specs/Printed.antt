-- What the reading program prints for a document, in ASCII: `accepted N` or `refused C at N`, followed by
-- ` names A qnames B events C version V`, and then a line for each row of the three tables (01, "Answer numbers" and "Rows"; the
-- layout is not 01's, docs/DECISIONS.md 59).
use Rattle.std.specs.Prelude.{ℕ, cond, List, [], ◌∷◌, ◌++◌, eqb}
use Rattle.token.specs.Tokens.{accepted}
use Rattle.machine.specs.Machine.{Result, reading, read_answer, full}
use Rattle.machine.specs.declared.Answer.{Answer}
use Rattle.print_lines.specs.Lines.{field, accepted_word, refused_word, at_word}
use Rattle.print_rows.specs.Rows.{row_lines}

-- " names ", " qnames ", " events ", " version "
abbrev pub names_word : List ℕ
names_word = 0x20 ∷ 0x6E ∷ 0x61 ∷ 0x6D ∷ 0x65 ∷ 0x73 ∷ 0x20 ∷ []

abbrev pub qnames_word : List ℕ
qnames_word = 0x20 ∷ 0x71 ∷ 0x6E ∷ 0x61 ∷ 0x6D ∷ 0x65 ∷ 0x73 ∷ 0x20 ∷ []

abbrev pub events_word : List ℕ
events_word = 0x20 ∷ 0x65 ∷ 0x76 ∷ 0x65 ∷ 0x6E ∷ 0x74 ∷ 0x73 ∷ 0x20 ∷ []

abbrev pub version_word : List ℕ
version_word = 0x20 ∷ 0x76 ∷ 0x65 ∷ 0x72 ∷ 0x73 ∷ 0x69 ∷ 0x6F ∷ 0x6E ∷ 0x20 ∷ []

-- ---- the first line

unfoldable pub verdict : Answer → List ℕ
verdict a = cond (eqb a.number accepted) (field accepted_word a.place) (field refused_word a.number ++ field at_word a.place)

unfoldable pub counts : ℕ → ℕ → ℕ → ℕ → List ℕ
counts names qnames events version =
    field names_word names ++ (field qnames_word qnames ++ (field events_word events ++ (field version_word version ++ (0x0A ∷ []))))

unfoldable pub answer_line : Answer → List ℕ
answer_line a = verdict a ++ counts a.names a.qnames a.events a.version

-- tables at the full bounds
unfoldable pub printed : List ℕ → List ℕ
printed doc = answer_line (read_answer r) ++ row_lines r.final.names r.final.qnames r.final.events
  where
    r : Result
    r = reading doc full
