-- `print_lines::put_line` meets its contract: what is put last stands first. Assumes nothing.
use Rattle.print_lines.proofs.Laws.{both_put, shorter, left, line_length, line_put}
use Rattle.print_lines.specs.Lines.{field}
use native.Mathlib.Omega.{arith}
use Rattle.print_lines.proofs.put_line.Goals as goal

pub put_word-after-requires : goal.put_word-after-requires
put_word-after-requires c =
    let l = line_length c.args.first.now c.args.a c.args.second.now c.args.b in
    (omega (arith, l, c.requires.0), c.requires.1)

pub put_field-between-requires : goal.put_field-between-requires
put_field-between-requires c =
    left (field c.args.second.now c.args.b) c.put_word-after.ensures
    (shorter (field c.args.first.now c.args.a) _ _ c.requires.0) c.requires.1

pub put_field-requires : goal.put_field-requires
put_field-requires c =
    left (field c.args.first.now c.args.a) (both_put c.put_word-after.ensures c.put_field-between.ensures) c.requires.0 c.requires.1

pub returns : goal.returns
returns c =
    line_put c.args.first.now c.args.a c.args.second.now c.args.b
    c.put_word-after.ensures
    c.put_field-between.ensures
    c.put_field.ensures
