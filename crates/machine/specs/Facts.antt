-- What the rows of a reading are (01, "Rows"): each row says what stands in the document, and the events stand in order.
use Rattle.std.specs.Prelude.{ℕ, ◌+◌, ◌*◌, ◌≤◌, ◌<◌, ◌≡◌, ◌⊎◌, Bool, true, false, ◌||◌, List, [], ◌∷◌, ◌++◌, eqb, length, Ok}
use Rattle.sequences.specs.Arrays.{Every}
use Rattle.token.specs.Tokens.{mb32, class_of, shape_of, XMLDECL_TOKEN, ENCODING_TOKEN, DOCTYPEDECL_TOKEN, SYSTEM_TOKEN, PUBLIC_TOKEN, SUBSET_TOKEN, COMMENT_TOKEN, CDATA_TOKEN, ELEMENT_TOKEN, ATTRIBUTE_TOKEN, XSD_QNAME, ENDELEMENT_TOKEN, ENDATTRIBUTES_TOKEN, CDATAEND_TOKEN, ENDNEST_TOKEN, PI_TOKEN, NEST_TOKEN}
use Rattle.token.specs.declared.Class.TheVariants as class
use Rattle.value.specs.Fields.{text, text_at, field_at}
use Rattle.value.specs.declared.Field.TheVariants as field
use Rattle.machine.specs.Machine.{NameRow, QnameRow, EventRow, event, State}

-- a number is one of a list's
abbrev pub one_of : List ℕ → ℕ → Bool
one_of [] x = false
one_of (k ∷ ks) x = eqb x k || one_of ks x

-- 01, "Rows": the tokens whose row is a text's place and units, whose row is a qname's, and whose row has two zeros
abbrev pub text_tokens : List ℕ
text_tokens = XMLDECL_TOKEN ∷ ENCODING_TOKEN ∷ DOCTYPEDECL_TOKEN ∷ SYSTEM_TOKEN ∷ PUBLIC_TOKEN ∷ SUBSET_TOKEN ∷ COMMENT_TOKEN ∷ CDATA_TOKEN ∷ []

abbrev pub qname_tokens : List ℕ
qname_tokens = ELEMENT_TOKEN ∷ ATTRIBUTE_TOKEN ∷ XSD_QNAME ∷ []

abbrev pub bare_tokens : List ℕ
bare_tokens = ENDELEMENT_TOKEN ∷ ENDATTRIBUTES_TOKEN ∷ CDATAEND_TOKEN ∷ ENDNEST_TOKEN ∷ []

-- a name's text lies inside a document of this size
pub record NameFits (size : ℕ) (r : NameRow) : Type 0 where
  pub inside : r.place + 2 * r.units ≤ size

-- a qname's three names are among so many rows of names; 0 is the empty name
pub record QnameFits (names : ℕ) (r : QnameRow) : Type 0 where
  pub uri_in : r.uri ≤ names
  pub prefix_in : r.prefix ≤ names
  pub local_in_fact : r.local ≤ names

-- an event row and the place after its token and fields, by the kinds of 01, "Rows"
pub data EventFits (doc : List ℕ) (names qnames : ℕ) : EventRow → ℕ → Type 0 where
  -- the standalone byte: its value
  standalone : {place value : ℕ} → value ≤ 2 → EventFits doc names qnames (event 0 place value 0) (place + 1)
  -- FE, FD, FC, FB, FA, F9, F3, F2: place of the text, units
  texted : {token place a units : ℕ} → one_of text_tokens token ≡ true → text_at mb32 doc (place + 1) ≡ Ok (text a units)
      → EventFits doc names qnames (event token place a units) (a + 2 * units)
  -- F4: name row, place of the text's length
  pi : {place row start p u : ℕ} → row ≤ names → place < start → text_at mb32 doc start ≡ Ok (text p u)
      → EventFits doc names qnames (event PI_TOKEN place row start) (p + 2 * u)
  -- F8, F6, 8C: qname row
  reference : {token place row next : ℕ} → one_of qname_tokens token ≡ true → 1 ≤ row → row ≤ qnames → place < next → next ≤ length doc
      → EventFits doc names qnames (event token place row 0) next
  -- EC: version; the nested header has five bytes
  nested : {place version : ℕ} → 1 ≤ version → version ≤ 2 → EventFits doc names qnames (event NEST_TOKEN place version 0) (place + 6)
  -- F7, F5, F1, EB
  bare : {token place : ℕ} → one_of bare_tokens token ≡ true → EventFits doc names qnames (event token place 0 0) (place + 1)
  -- other values: place and size of the payload
  value : {token place a size : ℕ} → (class_of token ≡ class.Value) ⊎ (class_of token ≡ class.LaterValue)
      → field_at (shape_of token) doc place ≡ Ok (field.Payload a size) → EventFits doc names qnames (event token place a size) (a + size)

-- events in the order of their places that do not overlap, all of them before a place
pub data Placed (doc : List ℕ) (names qnames : ℕ) : List EventRow → ℕ → Type 0 where
  none : {at : ℕ} → Placed doc names qnames [] at
  then : {es : List EventRow} {e : EventRow} {p next at : ℕ} → Placed doc names qnames es p → p ≤ e.place → EventFits doc names qnames e next → next ≤ at
      → Placed doc names qnames (es ++ (e ∷ [])) at

-- the rows of a state
pub record RowsFit (doc : List ℕ) (s : State) : Type 0 where
  pub names : Every (NameFits (length doc)) s.names
  pub qnames : Every (QnameFits (length s.names)) s.qnames
  pub events : Placed doc (length s.names) (length s.qnames) s.events s.at
