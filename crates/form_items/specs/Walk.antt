-- Serves the code. What the walk over the rows of events does at each of them: the bytes that it writes, and the slots that it
-- keeps.
use Rattle.std.specs.Prelude.{ℕ, zero, suc, ◌+◌, ◌-◌, ◌*◌, ◌≤◌, ◌<◌, ◌≡◌, ◌⊎◌, List, [], ◌∷◌, ◌++◌, length, get_or, Ok}
use Rattle.std.proofs.Math.Option.{some}
use Rattle.sequences.specs.Lists.{part}
use Rattle.sequences.specs.Arrays.{Front}
use Rattle.token.specs.Tokens.{mb32, shape_of, PI_TOKEN, NEST_TOKEN, ENDNEST_TOKEN, qname_width, event_width, name_rows, qname_rows, nested_documents}
use Rattle.number.specs.Number.{shortest}
use Rattle.value.specs.Fields.{text, text_at}
use Rattle.machine.specs.Machine.{event, data_in}
use Rattle.machine.specs.Balance.{nothing_open, check}
use Rattle.machine.specs.Tables.{name_rows_in, qname_rows_in, event_rows_in, Filled, NamesInside}
use Rattle.classes.specs.Classes.{name_classes, qname_classes}
use Rattle.form.specs.Canonical.{with_units, length_of, header_of}
use Rattle.form_output.specs.Output.{Put}
use Rattle.form_slots.specs.Slots.{slots_after, number_in, parts_at, Cleared, region}
use Rattle.form_names.specs.Naming.{bytes_before, qname_before, names_after}
use Rattle.form_items.specs.Items.{item_of}
use Rattle.form_items.specs.declared.Spot.{Spot}
use Rattle.form_items.specs.declared.Source.{Source}
use Rattle.form_items.specs.declared.Item.{Item}
use Rattle.form_items.specs.declared.Item.TheVariants.{Byte, Texted, Pi, Refer, Valued, Nest, Leave}
use Rattle.classes.specs.Search.{class_at}

-- the tables and the classes of their rows
pub record Tables : Type 0 where
  pub doc : List ℕ
  pub names : List ℕ
  pub qnames : List ℕ
  pub classes : List ℕ
  pub qclasses : List ℕ

abbrev pub tables : List ℕ → List ℕ → List ℕ → List ℕ → List ℕ → Tables
tables doc names qnames classes qclasses = record { doc = doc; names = names; qnames = qnames; classes = classes; qclasses = qclasses }

abbrev pub tables_of : Source → Tables
tables_of s = tables s.texts.doc.now s.texts.names.now s.qnames.now s.classes.now s.qclasses.now

-- the row before: rows are numbered from 1, and stand in a table from 0 on
abbrev pub before : ℕ → ℕ
before zero = 0
before (suc k) = k

abbrev pub base_at : ℕ → ℕ
base_at depth = region * depth

-- a PI: its target's definition, its target's number, its text
unfoldable pub pi_bytes : Tables → List ℕ → ℕ → ℕ → ℕ → List ℕ
pi_bytes t slots base class start =
    bytes_before t.doc t.names slots base class
    ++ (PI_TOKEN ∷ (shortest (number_in (slots_after slots base class) base class) ++ with_units (data_in t.doc (text_at mb32 t.doc start))))

-- an event with a qname: the definitions that it needs, its token and the qname's number
unfoldable pub refer_bytes : Tables → List ℕ → List ℕ → ℕ → ℕ → ℕ → ℕ → List ℕ
refer_bytes t slots qslots base token k class =
    qname_before t.doc t.names slots qslots base (parts_at t.qnames t.classes k) class
    ++ (token ∷ shortest (number_in (slots_after qslots base class) base class))

abbrev pub bytes_for : Tables → List ℕ → List ℕ → ℕ → Item → List ℕ
bytes_for t slots qslots base (Byte value) = value ∷ []
bytes_for t slots qslots base (Texted token place units) = token ∷ with_units (part t.doc place (2 * units))
bytes_for t slots qslots base (Pi row start) = pi_bytes t slots base (class_at t.classes row) start
bytes_for t slots qslots base (Refer token row) = refer_bytes t slots qslots base token (before row) (class_at t.qclasses row)
bytes_for t slots qslots base (Valued token place size) =
    token ∷ (length_of (shape_of token) (part t.doc place size) ++ part t.doc place size)
bytes_for t slots qslots base (Nest version) = NEST_TOKEN ∷ header_of version
bytes_for t slots qslots base Leave = ENDNEST_TOKEN ∷ []

-- the slots of names and of qnames afterwards
abbrev pub NamesKept : Tables → List ℕ → List ℕ → ℕ → Item → List ℕ → Type 0
NamesKept t slots qslots base (Byte value) slots' = slots' ≡ slots
NamesKept t slots qslots base (Texted token place units) slots' = slots' ≡ slots
NamesKept t slots qslots base (Pi row start) slots' = slots' ≡ slots_after slots base (class_at t.classes row)
NamesKept t slots qslots base (Refer token row) slots' =
    slots' ≡ names_after slots qslots base (parts_at t.qnames t.classes (before row)) (class_at t.qclasses row)
NamesKept t slots qslots base (Valued token place size) slots' = slots' ≡ slots
NamesKept t slots qslots base (Nest version) slots' = Cleared slots slots' (base + region)
NamesKept t slots qslots base Leave slots' = slots' ≡ slots

abbrev pub QnamesKept : Tables → List ℕ → ℕ → Item → List ℕ → Type 0
QnamesKept t qslots base (Byte value) qslots' = qslots' ≡ qslots
QnamesKept t qslots base (Texted token place units) qslots' = qslots' ≡ qslots
QnamesKept t qslots base (Pi row start) qslots' = qslots' ≡ qslots
QnamesKept t qslots base (Refer token row) qslots' = qslots' ≡ slots_after qslots base (class_at t.qclasses row)
QnamesKept t qslots base (Valued token place size) qslots' = qslots' ≡ qslots
QnamesKept t qslots base (Nest version) qslots' = Cleared qslots qslots' (base + region)
QnamesKept t qslots base Leave qslots' = qslots' ≡ qslots

abbrev pub nested_after : Item → ℕ → ℕ
nested_after (Byte value) depth = depth
nested_after (Texted token place units) depth = depth
nested_after (Pi row start) depth = depth
nested_after (Refer token row) depth = depth
nested_after (Valued token place size) depth = depth
nested_after (Nest version) depth = depth + 1
nested_after Leave depth = depth - 1

-- what is written and kept for an item
pub record Wrote (t : Tables) (slots qslots out slots' qslots' out' : List ℕ) (w : Spot) (item : Item) (next : ℕ) : Type 0 where
  pub put : Put out out' w.at next (bytes_for t slots qslots (base_at w.depth) item)
  pub names_kept : NamesKept t slots qslots (base_at w.depth) item slots'
  pub qnames_kept : QnamesKept t qslots (base_at w.depth) item qslots'

-- the same for a turn of the walk
pub record Turned (t : Tables) (slots qslots out slots' qslots' out' : List ℕ) (w : Spot) (item : Item) (r : Spot) : Type 0 where
  pub wrote : Wrote t slots qslots out slots' qslots' out' w item r.at
  pub depth_is : r.depth ≡ nested_after item w.depth

-- the item of row i of a table of events
abbrev pub item_at : List ℕ → ℕ → Item
item_at events i = item_of (event (get_or events (event_width * i) 0) (get_or events (event_width * i + 1) 0) (get_or events (event_width * i + 2) 0) (get_or events (event_width * i + 3) 0))

-- an output of at most one byte, which is only measured over, or one with room for so many bytes
abbrev pub Either : ℕ → ℕ → Type 0
Either room size = (room ≤ 1) ⊎ (size ≤ room)

-- ---- bounds

-- so many rows of names and of qnames, and their classes
pub record Ready (t : Tables) (rows qrows : ℕ) : Type 0 where
  pub texts : NamesInside t.doc t.names rows
  pub classes_long : length t.classes ≡ name_rows
  pub qclasses_long : length t.qclasses ≡ qname_rows
  pub class_low : (x : ℕ) → x ≤ rows → class_at t.classes x ≤ rows
  pub qrows_few : qrows ≤ qname_rows
  pub qnames_long : qname_width * qrows ≤ length t.qnames
  pub uri_in : (k : ℕ) → k < qrows → get_or t.qnames (qname_width * k) 0 ≤ rows
  pub prefix_in : (k : ℕ) → k < qrows → get_or t.qnames (qname_width * k + 1) 0 ≤ rows
  pub local_in_fact : (k : ℕ) → k < qrows → get_or t.qnames (qname_width * k + 2) 0 ≤ rows
  pub qclass_from : (x : ℕ) → 1 ≤ x → x ≤ qrows → 1 ≤ class_at t.qclasses x
  pub qclass_low : (x : ℕ) → 1 ≤ x → x ≤ qrows → class_at t.qclasses x ≤ qname_rows

-- what an item needs
pub record TextThere (doc : List ℕ) (start : ℕ) : Type 0 where
  pub place : ℕ
  pub units : ℕ
  pub is : text_at mb32 doc start ≡ Ok (text place units)

abbrev pub ItemFits : Tables → ℕ → ℕ → ℕ → Item → Type 0
ItemFits t rows qrows depth (Byte value) = value < 256
ItemFits t rows qrows depth (Texted token place units) = (token < 256) × (place + 2 * units ≤ length t.doc)
ItemFits t rows qrows depth (Pi row start) = (row ≤ rows) × TextThere t.doc start
ItemFits t rows qrows depth (Refer token row) = (token < 256) × (1 ≤ row) × (row ≤ qrows)
ItemFits t rows qrows depth (Valued token place size) = (token < 256) × (place + size ≤ length t.doc)
ItemFits t rows qrows depth (Nest version) = (version ≤ 2) × (depth < nested_documents)
ItemFits t rows qrows depth Leave = 1 ≤ depth

-- ---- what the tables hold when the walk begins

-- the tables after an accepted reading, with balanced events, and the classes of names and qnames
pub record Prepared (t : Tables) (events : List ℕ) (rows qrows count : ℕ) : Type 0 where
  pub filled : Filled t.doc t.names t.qnames events rows qrows count
  pub balanced : check nothing_open (event_rows_in count events) ≡ some nothing_open
  pub classes_long : length t.classes ≡ name_rows
  pub classes_are : Front (name_classes t.doc (name_rows_in rows t.names)) t.classes
  pub qclasses_long : length t.qclasses ≡ qname_rows
  pub qclasses_are : Front (qname_classes t.doc (name_rows_in rows t.names) (qname_rows_in qrows t.qnames)) t.qclasses
