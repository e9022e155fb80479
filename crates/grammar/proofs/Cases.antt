-- The worked cases marked P in 01, by computation. Assumes nothing.
use mathlib.Core.Path.{◌≡◌, refl}
use mathlib.Core.List.{map}
use Rattle.number.specs.Number.{front, number_at}
use Rattle.token.specs.Tokens.{class_of, shape_of}
use Rattle.rules.specs.Rules.{decimal_size, decimal_lawful, lawful}
use Rattle.value.specs.Fields.{needed, text_at, extent_at, field_at}
use Rattle.fields.specs.Fields.{name_at, qname_at, header_at}
use Rattle.scan.specs.Steps.{event_due, text_step, name_step, qname_step, extension_step, pi_step, element_step, attribute_step, value_step, nest_step, class_step, token_step, declared_step, end_step, step_at}
use Rattle.machine.specs.Machine.{run, reading}
use Rattle.numeral.specs.Numeral.{last_digits, digits_in, digits, fraction, numeral}
use Rattle.plan.specs.Text.{kind_of, signed_text, shown, text_of}
use Rattle.grammar.specs.Cases.{given, said, cases}

-- 01, "Extracts worked by hand": those marked P are proved together as one list with a single statement
pub worked : map given cases ≡ map said cases
unfolding front number_at class_of shape_of decimal_size decimal_lawful lawful needed text_at extent_at field_at name_at qname_at header_at event_due text_step name_step qname_step extension_step pi_step element_step attribute_step value_step nest_step class_step token_step declared_step end_step step_at run reading last_digits digits_in digits fraction numeral kind_of signed_text shown text_of
worked = refl
