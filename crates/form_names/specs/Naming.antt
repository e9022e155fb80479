-- Serves the code. Names and qnames that the form has defined so far, as the walk keeps them: for each open document a region
-- of numbers, at its base how many are defined, then for each class its number in that document, or 0. What each step makes of
-- them.
use Rattle.std.specs.Prelude.{ℕ, ◌+◌, ◌-◌, ◌*◌, cond, List, [], ◌∷◌, ◌++◌, get_or}
use Rattle.sequences.specs.Lists.{part}
use Rattle.number.specs.Number.{shortest}
use Rattle.form.specs.Canonical.{with_units}
use Rattle.machine.specs.Tables.{NamesInside}
use Rattle.form_slots.specs.declared.Parts.{Parts}
use Rattle.form_slots.specs.Slots.{is_new, slots_after, number_in}
use Rattle.form_names.specs.declared.Texts.{Texts}
use Rattle.token.specs.Tokens.{name_width, NAMEDEF_TOKEN, QNAMEDEF_TOKEN}

-- the rows of names lie inside the document
abbrev pub TextsInside : Texts → Type 0
TextsInside t = NamesInside t.doc.now t.names.now t.rows

-- the text of the row that a class is the number of
unfoldable pub class_text : List ℕ → List ℕ → ℕ → List ℕ
class_text doc names class = part doc (get_or names (name_width * (class - 1)) 0) (2 * get_or names (name_width * (class - 1) + 1) 0)

-- the definition that a class needs
unfoldable pub bytes_before : List ℕ → List ℕ → List ℕ → ℕ → ℕ → List ℕ
bytes_before doc names slots base class = cond (is_new slots base class) (NAMEDEF_TOKEN ∷ with_units (class_text doc names class)) []

-- after each of its names
unfoldable pub slots1 : List ℕ → ℕ → Parts → List ℕ
slots1 slots base q = slots_after slots base q.uri.0

unfoldable pub slots2 : List ℕ → ℕ → Parts → List ℕ
slots2 slots base q = slots_after (slots1 slots base q) base q.prefix.0

unfoldable pub slots3 : List ℕ → ℕ → Parts → List ℕ
slots3 slots base q = slots_after (slots2 slots base q) base q.local.0

unfoldable pub texts_before : List ℕ → List ℕ → List ℕ → ℕ → Parts → List ℕ
texts_before doc names slots base q =
    bytes_before doc names slots base q.uri.0
    ++ (bytes_before doc names (slots1 slots base q) base q.prefix.0 ++ bytes_before doc names (slots2 slots base q) base q.local.0)

unfoldable pub qname_numbers : List ℕ → ℕ → Parts → List ℕ
qname_numbers slots base q =
    QNAMEDEF_TOKEN ∷ (shortest (number_in slots base q.uri.0) ++ (shortest (number_in slots base q.prefix.0) ++ shortest (number_in slots base q.local.0)))

-- the definition that a qname of this class needs
unfoldable pub qname_before : List ℕ → List ℕ → List ℕ → List ℕ → ℕ → Parts → ℕ → List ℕ
qname_before doc names slots qslots base q class =
    cond (is_new qslots base class) (texts_before doc names slots base q ++ qname_numbers (slots3 slots base q) base q) []

unfoldable pub names_after : List ℕ → List ℕ → ℕ → Parts → ℕ → List ℕ
names_after slots qslots base q class = cond (is_new qslots base class) (slots3 slots base q) slots
