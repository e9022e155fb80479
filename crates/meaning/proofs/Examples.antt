-- Worked examples of meanings and pairs, by computation. Assumes nothing.
use Prim.Native.Nat.{ℕ}
use mathlib.Core.Path.{◌≡◌, refl}
use mathlib.Core.List.{List, [], ◌∷◌, ◌++◌}
use lib.ListN.{length}
use Rattle.number.specs.Number.{front, number_at}
use Rattle.token.specs.Tokens.{class_of, shape_of}
use Rattle.rules.specs.Rules.{lawful}
use Rattle.value.specs.Fields.{needed, text_at, extent_at, field_at}
use Rattle.fields.specs.Fields.{name_at, qname_at, header_at}
use Rattle.scan.specs.Steps.{event_due, text_step, name_step, qname_step, extension_step, pi_step, element_step, attribute_step, value_step, nest_step, class_step, token_step, declared_step, end_step, step_at}
use Rattle.machine.specs.Machine.{run, reading, Event, texted, pi, qnamed, valued, nest, plain, name_text, event_of, events_of, full}
use Rattle.machine.specs.Examples.{H}
use Rattle.numeral.specs.Numeral.{last_digits, digits_in, digits, fraction, numeral}
use Rattle.plan.specs.Text.{kind_of, signed_text, shown, text_of}
use Rattle.meaning.specs.Meaning.{unit, opening, ending, attribute, closing, value, qname, xmlns, declares, named_symbols, plain_symbols, depth_after, pieces, meanings, same_symbol, same_meaning, Pair, pair, equal_to, pairs_from, pairs_of, no_value, one_value, Recut, no_event, same_event, values}

-- the text "p", an element and an attribute of that local name, and what ends them
abbrev p : List ℕ
p = 0x70 ∷ 0 ∷ []

abbrev element : Event
element = qnamed 0xF8 [] [] p

abbrev attr : Event
attr = qnamed 0xF6 [] [] p

abbrev attrs_end : Event
attrs_end = plain 0xF5

abbrev end : Event
end = plain 0xF7

-- the SQL-NVARCHAR values "1", "b" and "1b"
abbrev one : Event
one = valued 0x11 (0x31 ∷ 0 ∷ [])

abbrev b : Event
b = valued 0x11 (0x62 ∷ 0 ∷ [])

abbrev one_b : Event
one_b = valued 0x11 (0x31 ∷ 0 ∷ 0x62 ∷ 0 ∷ [])

abbrev pairs : List Event → List Pair
pairs es = pairs_of same_meaning (meanings es)

-- 01, "Extracts worked by hand", the listing program's document: three records
abbrev listing : List Event
listing =
    element ∷ attr ∷ one ∷ b ∷ attrs_end ∷ end
    ∷ element ∷ attr ∷ one ∷ attrs_end ∷ end
    ∷ element ∷ attr ∷ one_b ∷ attrs_end ∷ end
    ∷ []

-- its bytes
abbrev document : List ℕ
document =
    H
    ++ (0xF0 ∷ 0x01 ∷ 0x70 ∷ 0x00 ∷ 0xEF ∷ 0x00 ∷ 0x00 ∷ 0x01
    ∷ 0xF8 ∷ 0x01 ∷ 0xF6 ∷ 0x01 ∷ 0x11 ∷ 0x01 ∷ 0x31 ∷ 0x00 ∷ 0x11 ∷ 0x01 ∷ 0x62 ∷ 0x00 ∷ 0xF5 ∷ 0xF7
    ∷ 0xF8 ∷ 0x01 ∷ 0xF6 ∷ 0x01 ∷ 0x11 ∷ 0x01 ∷ 0x31 ∷ 0x00 ∷ 0xF5 ∷ 0xF7
    ∷ 0xF8 ∷ 0x01 ∷ 0xF6 ∷ 0x01 ∷ 0x11 ∷ 0x02 ∷ 0x31 ∷ 0x00 ∷ 0x62 ∷ 0x00 ∷ 0xF5 ∷ 0xF7
    ∷ [])

-- reading the bytes gives those events
listing_read : events_of document (reading document full).final ≡ listing
unfolding front number_at class_of shape_of lawful needed text_at extent_at field_at name_at qname_at header_at event_due text_step name_step qname_step extension_step pi_step element_step attribute_step value_step nest_step class_step token_step declared_step end_step step_at run reading name_text event_of events_of
listing_read = refl

-- its records are 3
listing_records : length (meanings listing) ≡ 3
unfolding shape_of lawful kind_of shown text_of declares named_symbols plain_symbols depth_after pieces meanings
listing_records = refl

-- its one pair is 0 2
listing_pairs : pairs listing ≡ pair 0 2 ∷ []
unfolding shape_of lawful kind_of shown text_of declares named_symbols plain_symbols depth_after pieces meanings same_symbol equal_to pairs_from pairs_of
listing_pairs = refl

-- its first and last record differ only in how the text is cut
listing_cut : Recut (element ∷ attr ∷ one ∷ b ∷ attrs_end ∷ end ∷ []) (element ∷ attr ∷ one_b ∷ attrs_end ∷ end ∷ [])
unfolding shape_of lawful kind_of shown text_of
listing_cut =
    same_event element (same_event attr (values {us = one ∷ b ∷ []} {vs = one_b ∷ []} (one_value refl (one_value refl no_value)) (one_value refl no_value) (same_event attrs_end (same_event end no_event))))

-- the meaning of a record: marks and units in their order; a value without text has a mark of its own
whole_meaning :
    meanings (element ∷ attr ∷ one ∷ valued 0x03 (1 ∷ 2 ∷ 3 ∷ 4 ∷ []) ∷ b ∷ attrs_end ∷ qnamed 0x8C p [] p ∷ texted 0xF2 (0x31 ∷ 0 ∷ []) ∷ plain 0xF1 ∷ end ∷ [])
    ≡ (opening [] p ∷ attribute [] p ∷ unit 0x31 ∷ value 0x03 (1 ∷ 2 ∷ 3 ∷ 4 ∷ []) ∷ unit 0x62 ∷ closing ∷ qname p p ∷ unit 0x31 ∷ ending ∷ []) ∷ []
unfolding shape_of lawful kind_of shown text_of declares named_symbols plain_symbols depth_after pieces meanings
whole_meaning = refl

-- an attribute "xmlns" or "xmlns:p" does not count, its values neither, nor the F5 after it; "xmlnsp" counts
xmlns_pairs :
    pairs (
    element ∷ qnamed 0xF6 [] xmlns [] ∷ one ∷ attrs_end ∷ end
    ∷ element ∷ end
    ∷ element ∷ qnamed 0xF6 [] (xmlns ++ (0x3A ∷ 0 ∷ p)) [] ∷ b ∷ one ∷ attrs_end ∷ end
    ∷ element ∷ qnamed 0xF6 [] (xmlns ++ p) [] ∷ one ∷ attrs_end ∷ end
    ∷ [])
    ≡ pair 0 1 ∷ pair 0 2 ∷ pair 1 2 ∷ []
unfolding shape_of lawful kind_of shown text_of declares named_symbols plain_symbols depth_after pieces meanings same_symbol equal_to pairs_from pairs_of
xmlns_pairs = refl

-- CDATA chunks "1" and "b" are the text of a value "1b"; so are a value and a chunk with a comment and a PI between
cdata_pairs :
    pairs (
    element ∷ one_b ∷ end
    ∷ element ∷ texted 0xF2 (0x31 ∷ 0 ∷ []) ∷ texted 0xF2 (0x62 ∷ 0 ∷ []) ∷ plain 0xF1 ∷ end
    ∷ element ∷ one ∷ texted 0xF3 p ∷ pi p p ∷ texted 0xF2 (0x62 ∷ 0 ∷ []) ∷ plain 0xF1 ∷ end
    ∷ [])
    ≡ pair 0 1 ∷ pair 0 2 ∷ pair 1 2 ∷ []
unfolding shape_of lawful kind_of shown text_of declares named_symbols plain_symbols depth_after pieces meanings same_symbol equal_to pairs_from pairs_of
cdata_pairs = refl

-- prefixes of elements, attributes and XSD-QNAME values do not count, URIs do
prefix_pairs :
    pairs (
    qnamed 0xF8 p [] p ∷ qnamed 0xF6 p [] p ∷ qnamed 0x8C p [] p ∷ attrs_end ∷ end
    ∷ qnamed 0xF8 p p p ∷ qnamed 0xF6 p p p ∷ qnamed 0x8C p p p ∷ attrs_end ∷ end
    ∷ qnamed 0xF8 p [] p ∷ qnamed 0xF6 p [] p ∷ qnamed 0x8C [] [] p ∷ attrs_end ∷ end
    ∷ [])
    ≡ pair 0 1 ∷ []
unfolding shape_of lawful kind_of shown text_of declares named_symbols plain_symbols depth_after pieces meanings same_symbol equal_to pairs_from pairs_of
prefix_pairs = refl

-- text of an attribute is not text after it
closing_pairs : pairs (element ∷ attr ∷ one ∷ attrs_end ∷ b ∷ end ∷ element ∷ attr ∷ one ∷ b ∷ attrs_end ∷ end ∷ []) ≡ []
unfolding shape_of lawful kind_of shown text_of declares named_symbols plain_symbols depth_after pieces meanings same_symbol equal_to pairs_from pairs_of
closing_pairs = refl

-- no value and an empty text are the same; an attribute without values counts
empty_pairs :
    pairs (element ∷ attr ∷ attrs_end ∷ end ∷ element ∷ attr ∷ valued 0x11 [] ∷ attrs_end ∷ end ∷ element ∷ end ∷ []) ≡ pair 0 1 ∷ []
unfolding shape_of lawful kind_of shown text_of declares named_symbols plain_symbols depth_after pieces meanings same_symbol equal_to pairs_from pairs_of
empty_pairs = refl

-- the number 1 (SQL-TINYINT) has the text "1"; a value without text (SQL-REAL) is not the text that its bytes would be
value_pairs :
    pairs (
    element ∷ one ∷ end
    ∷ element ∷ valued 0x07 (1 ∷ []) ∷ end
    ∷ element ∷ valued 0x03 (0x31 ∷ 0 ∷ 0x62 ∷ 0 ∷ []) ∷ end
    ∷ element ∷ one_b ∷ end
    ∷ element ∷ valued 0x03 (0x31 ∷ 0 ∷ 0x62 ∷ 0 ∷ []) ∷ end
    ∷ [])
    ≡ pair 0 1 ∷ pair 2 4 ∷ []
unfolding shape_of lawful last_digits digits_in digits fraction numeral kind_of signed_text shown text_of declares named_symbols plain_symbols depth_after pieces meanings same_symbol equal_to pairs_from pairs_of
value_pairs = refl

-- 02, item 2: C8 as SQL-TINYINT means the text "200", as XSD-BYTE the text "-56"
storeys_pairs :
    pairs (
    element ∷ valued 0x07 (0xC8 ∷ []) ∷ end
    ∷ element ∷ valued 0x11 (0x32 ∷ 0 ∷ 0x30 ∷ 0 ∷ 0x30 ∷ 0 ∷ []) ∷ end
    ∷ element ∷ valued 0x88 (0xC8 ∷ []) ∷ end
    ∷ element ∷ valued 0x11 (0x2D ∷ 0 ∷ 0x35 ∷ 0 ∷ 0x36 ∷ 0 ∷ []) ∷ end
    ∷ [])
    ≡ pair 0 1 ∷ pair 2 3 ∷ []
unfolding shape_of lawful last_digits digits_in digits fraction numeral kind_of signed_text shown text_of declares named_symbols plain_symbols depth_after pieces meanings same_symbol equal_to pairs_from pairs_of
storeys_pairs = refl

-- an element of a nested document is a record only where no element is open around it; nesting tokens do not count
nested_pairs :
    pairs (element ∷ nest 1 ∷ element ∷ end ∷ plain 0xEB ∷ end ∷ nest 1 ∷ element ∷ element ∷ end ∷ end ∷ plain 0xEB ∷ element ∷ end ∷ []) ≡ pair 0 1 ∷ []
unfolding shape_of lawful kind_of shown text_of declares named_symbols plain_symbols depth_after pieces meanings same_symbol equal_to pairs_from pairs_of
nested_pairs = refl
