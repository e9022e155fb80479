-- `print_reading::put_verdict` meets its contract: one law for each verdict. Assumes nothing.
use Rattle.print_lines.specs.Lines.{accepted_word, refused_word, at_word}
use Rattle.print_reading.proofs.Fields.{verdict_accepted, verdict_refused}
use Rattle.print_rows.proofs.Fields.{field_long, field_short}
use native.Mathlib.Omega.{arith}
use Rattle.print_reading.proofs.put_verdict.Goals as goal

pub put_field-requires : goal.put_field-requires
put_field-requires c =
    let f = field_long accepted_word c.args.a.place (omega arith) in
    (omega (arith, f, c.requires.0), c.requires.1)

pub returns-then-a-eq0 : goal.returns-then-a-eq0
returns-then-a-eq0 c = verdict_accepted c.args.a c.if-a-eq0.true c.put_field.ensures

pub put_field-at-requires : goal.put_field-at-requires
put_field-at-requires c =
    let f = field_long at_word c.args.a.place (omega arith) in
    (omega (arith, f, c.requires.0), c.requires.1)

pub put_field-requires-2 : goal.put_field-requires-2
put_field-requires-2 c =
    let p = c.put_field-at.ensures in
    let f = field_long at_word c.args.a.place (omega arith) in
    let h = field_short refused_word c.args.a.number (omega arith) in
    (omega (arith, f, h, p.place, c.requires.0), omega (arith, p.place, p.long, c.requires.1))

pub returns : goal.returns
returns c =
    verdict_refused c.args.a c.if-a-eq0.false c.put_field-at.ensures c.put_field-2.ensures
