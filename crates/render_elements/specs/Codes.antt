-- Serves the code. What a row of events adds to the numbers of its record, by its token.
use Rattle.std.specs.Prelude.{ℕ, ◌+◌, ◌-◌, ◌*◌, ◌≤◌, ◌≡◌, Bool, true, false, cond, List, [], ◌∷◌, ◌++◌, eqb, ltb, length}
use Rattle.sequences.specs.Lists.{part, units_of}
use Rattle.token.specs.Tokens.{shape_of, XSD_QNAME, ELEMENT_TOKEN, ATTRIBUTE_TOKEN, ENDATTRIBUTES_TOKEN, ENDELEMENT_TOKEN, CDATA_TOKEN, qname_rows, longest}
use Rattle.rules.specs.Rules.{lawful}
use Rattle.plan.specs.Text.{text_of}
use Rattle.meaning.specs.Meaning.{OpenAttribute, none_open, counted, skipped}
use Rattle.meaning.specs.Codes.{mark, attribute_kind, qname_kind, end_kind, closing_kind}
use Rattle.symbols.specs.Values.{value_codes}
use Rattle.marks.specs.Marks.{opening_in, declared_in}

-- the open attribute as a number: none, one that counts, one that does not
abbrev pub nothing_open : ℕ
nothing_open = 0

abbrev pub counted_open : ℕ
counted_open = 1

abbrev pub skipped_open : ℕ
skipped_open = 2

abbrev pub attribute_of : ℕ → OpenAttribute
attribute_of q = cond (eqb q counted_open) counted (cond (eqb q skipped_open) skipped none_open)

-- the codes of values are those from 01 to 9F (004, section 2), so no class is looked up
abbrev pub values_end : ℕ
values_end = 0xA0

abbrev pub is_value : ℕ → Bool
is_value token = cond (eqb token 0) false (ltb token values_end)

-- ---- rows

-- the mark that closes an open attribute
abbrev pub close_by : ℕ → List ℕ
close_by q = cond (eqb q counted_open) (mark closing_kind 0 ∷ []) []

-- XSD-QNAME, or another value
unfoldable pub counted_by : List ℕ → List ℕ → ℕ → ℕ → ℕ → List ℕ
counted_by doc marks token a b =
    cond (eqb token XSD_QNAME) ((opening_in marks a + qname_kind) ∷ [])
    (cond (is_value token) (value_codes token (part doc a b) (text_of token (part doc a b))) [])

-- none of a skipped attribute
unfoldable pub value_by : List ℕ → List ℕ → ℕ → ℕ → ℕ → ℕ → List ℕ
value_by doc marks q token a b = cond (eqb q skipped_open) [] (counted_by doc marks token a b)

unfoldable pub codes_by : List ℕ → List ℕ → ℕ → ℕ → ℕ → ℕ → List ℕ
codes_by doc marks q token a b =
    cond (eqb token ELEMENT_TOKEN) (opening_in marks a ∷ [])
    (cond (eqb token ATTRIBUTE_TOKEN) (close_by q ++ cond (declared_in marks a) [] ((opening_in marks a + attribute_kind) ∷ []))
    (cond (eqb token ENDATTRIBUTES_TOKEN) (close_by q)
    (cond (eqb token ENDELEMENT_TOKEN) (mark end_kind 0 ∷ [])
    (cond (eqb token CDATA_TOKEN) (units_of (part doc a (2 * b))) (value_by doc marks q token a b)))))

-- nothing outside of a record
abbrev pub unless_out : ℕ → List ℕ → List ℕ
unless_out depth l = cond (eqb depth 0) [] l

-- outside of a record only ELEMENT counts
unfoldable pub row_by : List ℕ → List ℕ → ℕ → ℕ → ℕ → ℕ → ℕ → List ℕ
row_by doc marks depth q token a b =
    cond (eqb token ELEMENT_TOKEN) (opening_in marks a ∷ []) (unless_out depth (codes_by doc marks q token a b))

-- a record begins; elements open after the row; the attribute open after it
abbrev pub begins_by : ℕ → ℕ → Bool
begins_by depth token = cond (eqb token ELEMENT_TOKEN) (eqb depth 0) false

abbrev pub depth_by : ℕ → ℕ → ℕ
depth_by depth token = cond (eqb token ELEMENT_TOKEN) (depth + 1) (cond (eqb token ENDELEMENT_TOKEN) (depth - 1) depth)

unfoldable pub attribute_by : List ℕ → ℕ → ℕ → ℕ → ℕ
attribute_by marks q token a = cond (eqb token ATTRIBUTE_TOKEN) (cond (declared_in marks a) skipped_open counted_open) (cond (eqb token ENDATTRIBUTES_TOKEN) nothing_open q)

-- the most numbers that a row adds: two marks, or the units of a text
abbrev pub room_by : ℕ → ℕ → ℕ
room_by token b = 2 + cond (eqb token CDATA_TOKEN) b (cond (is_value token) (4 + 5 * b) 0)

-- what a row asks of the document and the table of marks
pub record RowFits (doc : List ℕ) (token a b : ℕ) : Type 0 where
  pub element : token ≡ ELEMENT_TOKEN → (1 ≤ a) × (a ≤ qname_rows)
  pub attribute : token ≡ ATTRIBUTE_TOKEN → (1 ≤ a) × (a ≤ qname_rows)
  pub qname : token ≡ XSD_QNAME → (1 ≤ a) × (a ≤ qname_rows)
  pub chunk : token ≡ CDATA_TOKEN → a + 2 * b ≤ length doc
  pub value : is_value token ≡ true → (token ≡ XSD_QNAME → ⊥) → (a + b ≤ length doc) × (lawful (shape_of token) (part doc a b) ≡ true) × (b ≤ longest)
