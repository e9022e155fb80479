-- Serves the code. Rows with equal texts have one class: the number of the first row with that text, and 0 for the empty text.
-- So texts are compared once for each table, and classes afterwards.
use Rattle.std.specs.Prelude.{ℕ, ◌*◌, List, map}
use Rattle.sequences.specs.Lists.{part}
use Rattle.machine.specs.Machine.{NameRow, QnameRow, name_text}
use Rattle.form.specs.Canonical.{Triple, triple, number_of, qnumber_of}

-- the texts of rows of names
abbrev pub row_text : List ℕ → NameRow → List ℕ
row_text doc r = part doc r.place (2 * r.units)

unfoldable pub texts_of : List ℕ → List NameRow → List (List ℕ)
texts_of doc rows = map (row_text doc) rows

-- the class of each row of names
unfoldable pub name_classes : List ℕ → List NameRow → List ℕ
name_classes doc rows = map (number_of (texts_of doc rows)) (texts_of doc rows)

-- the three texts of a row of qnames
abbrev pub triple_of : List ℕ → List NameRow → QnameRow → Triple
triple_of doc names q = triple (name_text doc names q.uri) (name_text doc names q.prefix) (name_text doc names q.local)

unfoldable pub triples_of : List ℕ → List NameRow → List QnameRow → List Triple
triples_of doc names rows = map (triple_of doc names) rows

-- the class of each row of qnames
unfoldable pub qname_classes : List ℕ → List NameRow → List QnameRow → List ℕ
qname_classes doc names rows = map (qnumber_of (triples_of doc names rows)) (triples_of doc names rows)
