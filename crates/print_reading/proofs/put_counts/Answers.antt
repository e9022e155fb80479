-- `print_reading::put_counts` meets its contract: what is put last stands first. Assumes nothing.
use Rattle.print_reading.proofs.Fields.{counts_put}
use Rattle.print_reading.specs.Printed.{names_word, qnames_word, events_word, version_word}
use Rattle.print_rows.proofs.Fields.{field_long}
use native.Mathlib.Omega.{arith}
use Rattle.print_reading.proofs.put_counts.Goals as goal

pub put_field-before_version-requires : goal.put_field-before_version-requires
put_field-before_version-requires c =
    let v = field_long version_word c.args.a.version (omega arith) in
    let p0 = c.put_word-after.ensures in
    (omega (arith, c.requires.0, v, p0.place), omega (arith, c.requires.1, p0.place, p0.long))

pub put_field-before_events-requires : goal.put_field-before_events-requires
put_field-before_events-requires c =
    let v = field_long version_word c.args.a.version (omega arith) in
    let e = field_long events_word c.args.a.events (omega arith) in
    let p0 = c.put_word-after.ensures in
    let p1 = c.put_field-before_version.ensures in
    (omega (arith, c.requires.0, v, e, p0.place, p1.place), omega (arith, c.requires.1, p0.place, p1.place, p0.long, p1.long))

pub put_field-before_qnames-requires : goal.put_field-before_qnames-requires
put_field-before_qnames-requires c =
    let v = field_long version_word c.args.a.version (omega arith) in
    let e = field_long events_word c.args.a.events (omega arith) in
    let q = field_long qnames_word c.args.a.qnames (omega arith) in
    let p0 = c.put_word-after.ensures in
    let p1 = c.put_field-before_version.ensures in
    let p2 = c.put_field-before_events.ensures in
    (omega (arith, c.requires.0, v, e, q, p0.place, p1.place, p2.place), omega (arith, c.requires.1, p0.place, p1.place, p2.place, p0.long, p1.long, p2.long))

pub put_field-requires : goal.put_field-requires
put_field-requires c =
    let v = field_long version_word c.args.a.version (omega arith) in
    let e = field_long events_word c.args.a.events (omega arith) in
    let q = field_long qnames_word c.args.a.qnames (omega arith) in
    let n = field_long names_word c.args.a.names (omega arith) in
    let p0 = c.put_word-after.ensures in
    let p1 = c.put_field-before_version.ensures in
    let p2 = c.put_field-before_events.ensures in
    let p3 = c.put_field-before_qnames.ensures in
    (omega (arith, c.requires.0, v, e, q, n, p0.place, p1.place, p2.place, p3.place), omega (arith, c.requires.1, p0.place, p1.place, p2.place, p3.place, p0.long, p1.long, p2.long, p3.long))

pub returns : goal.returns
returns c =
    let v = field_long version_word c.args.a.version (omega arith) in
    let e = field_long events_word c.args.a.events (omega arith) in
    let q = field_long qnames_word c.args.a.qnames (omega arith) in
    let n = field_long names_word c.args.a.names (omega arith) in
    let p0 = c.put_word-after.ensures in
    let p1 = c.put_field-before_version.ensures in
    let p2 = c.put_field-before_events.ensures in
    let p3 = c.put_field-before_qnames.ensures in
    let p4 = c.put_field.ensures in
    (counts_put c.args.a.names c.args.a.qnames c.args.a.events c.args.a.version p0 p1 p2 p3 p4, omega (arith, c.requires.0, v, e, q, n, p0.place, p1.place, p2.place, p3.place, p4.place))
