-- Serves the code. The three tables after an accepted reading: their rows, and what holds of them.
use Rattle.std.specs.Prelude.{ℕ, zero, suc, ◌+◌, ◌*◌, ◌≤◌, ◌<◌, List, [], ◌∷◌, map, length, get_or, drop}
use Rattle.machine.specs.Machine.{NameRow, QnameRow, EventRow, name_row, qname_row, event, Event, event_of}
use Rattle.sequences.specs.Arrays.{Every}
use Rattle.machine.specs.Facts.{NameFits, QnameFits, Placed}
use Rattle.token.specs.Tokens.{name_width, qname_width, event_width, longest, name_rows, qname_rows, event_rows}

-- the numbers of each table at its full bounds
abbrev pub name_table : ℕ
name_table = name_width * name_rows

abbrev pub qname_table : ℕ
qname_table = qname_width * qname_rows

abbrev pub event_table : ℕ
event_table = event_width * event_rows

-- the classes of texts of names: 0 for the empty text, and the number of a row
abbrev pub class_count : ℕ
class_count = 1025

-- the rows that stand in the front of a lent table of numbers (01, "Rows")
abbrev pub name_rows_in : ℕ → List ℕ → List NameRow
name_rows_in zero l = []
name_rows_in (suc n) l = name_row (get_or l 0 0) (get_or l 1 0) ∷ name_rows_in n (drop name_width l)

abbrev pub qname_rows_in : ℕ → List ℕ → List QnameRow
qname_rows_in zero l = []
qname_rows_in (suc n) l = qname_row (get_or l 0 0) (get_or l 1 0) (get_or l 2 0) ∷ qname_rows_in n (drop qname_width l)

abbrev pub event_rows_in : ℕ → List ℕ → List EventRow
event_rows_in zero l = []
event_rows_in (suc n) l = event (get_or l 0 0) (get_or l 1 0) (get_or l 2 0) (get_or l 3 0) ∷ event_rows_in n (drop event_width l)

-- the events of so many rows, names by text
unfoldable pub events_in : List ℕ → List ℕ → List ℕ → List ℕ → ℕ → ℕ → ℕ → List Event
events_in doc names qnames events rows qrows count = map (event_of doc (name_rows_in rows names) (qname_rows_in qrows qnames)) (event_rows_in count events)

-- so many rows of names, qnames and events, which an accepted reading has made of the document
pub record Filled (doc names qnames events : List ℕ) (rows qrows count : ℕ) : Type 0 where
  pub short : length doc ≤ longest
  pub few : rows ≤ name_rows
  pub long : name_width * rows ≤ length names
  pub qfew : qrows ≤ qname_rows
  pub qlong : qname_width * qrows ≤ length qnames
  pub efew : count ≤ event_rows
  pub elong : event_width * count ≤ length events
  pub names_fit : Every (NameFits (length doc)) (name_rows_in rows names)
  pub qnames_fit : Every (QnameFits rows) (qname_rows_in qrows qnames)
  pub last : ℕ
  pub inside : last ≤ length doc
  pub events_fit : Placed doc rows qrows (event_rows_in count events) last

-- so many rows of names, each text inside the document
pub record NamesInside (doc names : List ℕ) (rows : ℕ) : Type 0 where
  pub few : rows ≤ name_rows
  pub long : name_width * rows ≤ length names
  pub short : length doc ≤ longest
  pub inside : (k : ℕ) → k < rows → get_or names (name_width * k) 0 + 2 * get_or names (name_width * k + 1) 0 ≤ length doc
