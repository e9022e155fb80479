-- `value::text_at` meets its contract: the units are compared with half of what is left, so nothing is doubled before it is tested. Assumes nothing.
use Rattle.std.proofs.Common.{rules}
use Rattle.sequences.proofs.Tests.{tests}
use Rattle.value.specs.Fields.{text_at}
use Rattle.value.proofs.text_at.Goals as goal

pub returns-in_err-value : goal.returns-in_err-value
unfolding text_at
returns-in_err-value c = search rules

pub returns-then-value-doc : goal.returns-then-value-doc
unfolding text_at
returns-then-value-doc c = search (tests, rules)

pub returns-else-value-doc : goal.returns-else-value-doc
unfolding text_at
returns-else-value-doc c = search (tests, rules)
