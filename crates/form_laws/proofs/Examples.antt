-- The examples of documents and their forms, by computation. Assumes nothing.
use mathlib.Core.Path.{◌≡◌, refl}
use Rattle.number.specs.Number.{front, number_at, spell_in, shortest}
use Rattle.token.specs.Tokens.{class_of, shape_of}
use Rattle.rules.specs.Rules.{lawful}
use Rattle.value.specs.Fields.{needed, text_at, extent_at, field_at}
use Rattle.fields.specs.Fields.{name_at, qname_at, header_at}
use Rattle.scan.specs.Steps.{event_due, text_step, name_step, qname_step, extension_step, pi_step, element_step, attribute_step, value_step, nest_step, class_step, token_step, declared_step, end_step, step_at}
use Rattle.machine.specs.Machine.{run, reading, full, name_text, event_of, events_of}
use Rattle.form.specs.Canonical.{same_triple, place, absent, fresh, number_of, qnumber_of, grown_if, grown, with_units, length_of, header_of, definition, with_texts, definitions, qname_bytes, qname_definition, with_qname, body, canonical}
use Rattle.form_laws.specs.Forms.{form_read}
use Rattle.form_laws.specs.Examples.{flushed, flushed_form, nested, nested_form}

pub examples : (form_read flushed full ≡ flushed_form) × (form_read nested full ≡ nested_form)
unfolding front number_at class_of shape_of lawful needed text_at extent_at field_at name_at qname_at header_at event_due text_step name_step qname_step extension_step pi_step element_step attribute_step value_step nest_step class_step token_step declared_step end_step step_at run reading name_text event_of events_of spell_in shortest same_triple place absent fresh number_of qnumber_of grown_if grown with_units length_of header_of definition with_texts definitions qname_bytes qname_definition with_qname body canonical
examples = (refl, refl)
