-- The examples of the canonical form, by computation. Assumes nothing.
use mathlib.Core.Path.{◌≡◌, refl}
use Rattle.number.specs.Number.{spell_in, shortest}
use Rattle.form.specs.Canonical.{same_triple, place, absent, fresh, number_of, qnumber_of, grown_if, grown, with_units, length_of, header_of, definition, with_texts, definitions, qname_bytes, qname_definition, with_qname, body, canonical}
use Rattle.form.specs.Examples.{Example, empty_target, shared_text, shared_local, nested_document}

-- the form of an example's events is the example's
abbrev Holds : Example → Type 0
Holds e = canonical e.version e.events ≡ e.form

pub examples : Holds empty_target × Holds shared_text × Holds shared_local × Holds nested_document
unfolding spell_in shortest same_triple place absent fresh number_of qnumber_of grown_if grown with_units length_of header_of definition with_texts definitions qname_bytes qname_definition with_qname body canonical
examples = (refl, refl, refl, refl)
