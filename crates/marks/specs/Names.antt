-- Serves the code. The texts and the classes of a row of qnames, and whether it declares a prefix: what the functions of this
-- crate are said by.
use Rattle.std.specs.Prelude.{ℕ, ◌+◌, ◌*◌, ◌≤◌, ◌-◌, ◌≡◌, List, [], ◌∷◌, ◌++◌, length, get_or, Bool}
use Rattle.machine.specs.Machine.{name_text}
use Rattle.sequences.specs.Arrays.{Every}
use Rattle.machine.specs.Facts.{NameFits}
use Rattle.machine.specs.Tables.{name_rows_in, class_count}
use Rattle.form.specs.Canonical.{number_of}
use Rattle.classes.specs.Classes.{texts_of}
use Rattle.meaning.specs.Meaning.{declares, xmlns}
use Rattle.classes.specs.Search.{class_at, Keyable}
use Rattle.token.specs.Tokens.{name_width, qname_width, qname_rows}

-- the class of a text among those of the rows of names
abbrev pub class_in : List ℕ → List ℕ → ℕ → List ℕ → ℕ
class_in doc names rows t = number_of (texts_of doc (name_rows_in rows names)) t

-- ---- names

-- the texts of row `row` of qnames, from 1
abbrev pub uri_at : List ℕ → List ℕ → List ℕ → ℕ → ℕ → List ℕ
uri_at doc names qnames rows row = name_text doc (name_rows_in rows names) (get_or qnames (qname_width * (row - 1)) 0)

abbrev pub prefix_at : List ℕ → List ℕ → List ℕ → ℕ → ℕ → List ℕ
prefix_at doc names qnames rows row = name_text doc (name_rows_in rows names) (get_or qnames (qname_width * (row - 1) + 1) 0)

abbrev pub local_at : List ℕ → List ℕ → List ℕ → ℕ → ℕ → List ℕ
local_at doc names qnames rows row = name_text doc (name_rows_in rows names) (get_or qnames (qname_width * (row - 1) + 2) 0)

-- the classes of its URI and local as one number
unfoldable pub pair_of : List ℕ → List ℕ → ℕ → ℕ
pair_of qnames classes row = class_count * class_at classes (get_or qnames (qname_width * (row - 1)) 0) + class_at classes (get_or qnames (qname_width * (row - 1) + 2) 0)

abbrev pub largest_pair : ℕ
largest_pair = 1050624

-- a row of qnames whose classes can be looked up
pub record PairFits (qnames classes : List ℕ) (row : ℕ) : Type 0 where
  pub from : 1 ≤ row
  pub few : row ≤ qname_rows
  pub long : qname_width * row ≤ length qnames
  pub uri_key : Keyable classes (get_or qnames (qname_width * (row - 1)) 0)
  pub local_key : Keyable classes (get_or qnames (qname_width * (row - 1) + 2) 0)

-- the same, and its texts
pub record Named (doc names qnames classes : List ℕ) (rows row : ℕ) : Type 0 where
  pub fits : PairFits qnames classes row
  pub uri_class : class_at classes (get_or qnames (qname_width * (row - 1)) 0) ≡ class_in doc names rows (uri_at doc names qnames rows row)
  pub local_class : class_at classes (get_or qnames (qname_width * (row - 1) + 2) 0) ≡ class_in doc names rows (local_at doc names qnames rows row)
  pub prefix_in : get_or qnames (qname_width * (row - 1) + 1) 0 ≤ rows
  pub names_long : name_width * rows ≤ length names
  pub names_fit : Every (NameFits (length doc)) (name_rows_in rows names)

-- ---- xmlns

-- "xmlns:"
abbrev pub xmlns_colon : List ℕ
xmlns_colon = xmlns ++ (0x3A ∷ 0 ∷ [])

-- it declares a prefix
unfoldable pub declares_at : List ℕ → List ℕ → List ℕ → ℕ → ℕ → Bool
declares_at doc names qnames rows row = declares (uri_at doc names qnames rows row) (prefix_at doc names qnames rows row) (local_at doc names qnames rows row)
