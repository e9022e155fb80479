-- Serves the code. What the functions of the search hand to each other: numbers of a table, what a row refers to, and keys of
-- qnames.
use Rattle.std.specs.Prelude.{ℕ, zero, suc, ◌+◌, ◌*◌, ◌≤◌, List, get_or}
use Rattle.machine.specs.Machine.{NameRow, name_row}
use Rattle.classes.specs.Classes.{row_text}
use Rattle.token.specs.Tokens.{name_width, qname_width, name_rows}
use Rattle.machine.specs.Tables.{class_count}

-- row k of a table of names, from 0, and its text
abbrev pub name_at : List ℕ → ℕ → NameRow
name_at l k = name_row (get_or l (name_width * k) 0) (get_or l (name_width * k + 1) 0)

abbrev pub row_text_at : List ℕ → List ℕ → ℕ → List ℕ
row_text_at doc names k = row_text doc (name_at names k)

-- the class of row x of names, from 1; row 0 is the empty name
abbrev pub class_at : List ℕ → ℕ → ℕ
class_at classes zero = 0
class_at classes (suc k) = get_or classes k 0

-- three classes as one number; each is at most 1,024, so equal keys mean equal classes
abbrev pub key_of : ℕ → ℕ → ℕ → ℕ
key_of a b c = (a * class_count + b) * class_count + c

-- a row number, and its class, that a key can be made of
pub record Keyable (classes : List ℕ) (x : ℕ) : Type 0 where
  pub row_in : x ≤ name_rows
  pub class_in_fact : class_at classes x ≤ name_rows

-- the key of row k of qnames, from 0
unfoldable pub key_at : List ℕ → List ℕ → ℕ → ℕ
key_at qnames classes k =
    key_of (class_at classes (get_or qnames (qname_width * k) 0)) (class_at classes (get_or qnames (qname_width * k + 1) 0)) (class_at classes (get_or qnames (qname_width * k + 2) 0))
