-- Serves the code. The form that the walk writes from what it reads.
use Rattle.std.specs.Prelude.{ℕ, List}
use Rattle.machine.specs.Tables.{events_in}
use Rattle.form.specs.Canonical.{canonical}
use Rattle.form_items.specs.declared.Source.{Source}

-- the form of so many rows of events, in a document of this version
abbrev pub form_in : Source → List ℕ → ℕ → ℕ → List ℕ
form_in s events count version = canonical version (events_in s.texts.doc.now s.texts.names.now s.qnames.now events s.texts.rows s.qrows count)
