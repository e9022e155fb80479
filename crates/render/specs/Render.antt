-- Serves the code. The meanings of all records as numbers, one after the other in one array, with a boundary for each record.
use Rattle.std.specs.Prelude.{ℕ, ◌+◌, ◌*◌, ◌≤◌, ◌<◌, ◌≡◌, List, map, length, get_or}
use Rattle.sequences.specs.Arrays.{Front}
use Rattle.machine.specs.Tables.{name_rows_in, events_in, Filled}
use Rattle.classes.specs.Classes.{name_classes}
use Rattle.meaning.specs.Meaning.{meanings}
use Rattle.meaning.specs.Codes.{codes_of}
use Rattle.twins.specs.Parts.{part_at, parts_of, Cut}
use Rattle.hash.specs.Hash.{hash_of}
use Rattle.marks.specs.Names.{class_in}
use Rattle.token.specs.Tokens.{name_rows}
use Rattle.twins.specs.Search.{most_parts, part_bounds}

-- the tables after an accepted reading, and the classes of the names
pub record Renderable (doc names qnames events classes : List ℕ) (rows qrows count : ℕ) : Type 0 where
  pub filled : Filled doc names qnames events rows qrows count
  pub classes_long : length classes ≡ name_rows
  pub classes_are : Front (name_classes doc (name_rows_in rows names)) classes

-- room for the numbers of any document of so many bytes and rows of events: five for each byte and two for each row. A decimal
-- of 9 bytes can have 41 units; no other row has more for its bytes.
abbrev pub room_for : ℕ → ℕ → ℕ
room_for bytes count = 5 * bytes + 2 * count

-- so many records; the parts of the array are the codes of their meanings, with their hashes
pub record Rendered (doc names qnames events : List ℕ) (rows qrows count : ℕ) (syms starts hashes : List ℕ) (n : ℕ) : Type 0 where
  pub number_is : n ≡ length (meanings (events_in doc names qnames events rows qrows count))
  pub few : n ≤ most_parts
  pub starts_long : length starts ≡ part_bounds
  pub hashes_long : length hashes ≡ part_bounds
  pub cut : Cut syms starts n
  pub parts_are : parts_of syms starts n ≡ map (codes_of (class_in doc names rows)) (meanings (events_in doc names qnames events rows qrows count))
  pub hashes_are : (k : ℕ) → k < n → get_or hashes (k + 1) 0 ≡ hash_of (part_at syms starts k)
