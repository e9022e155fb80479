-- `print_value::put_text` meets its contract: what is put last stands first. Assumes nothing.
use Rattle.hexadecimal.proofs.Hex.{length_hex}
use Rattle.print_lines.proofs.Laws.{long_digits}
use Rattle.print_value.proofs.Laws.{text_put}
use lib.ListN.{length}
use native.Mathlib.Omega.{arith}
use Rattle.print_value.proofs.put_text.Goals as goal

pub put_word-first-requires : goal.put_word-first-requires
put_word-first-requires c =
    let p = c.put_word-last.ensures in
    let q = c.put_hex-digits.ensures in
    let l = length_hex c.args.text.now in
    (omega (arith, c.requires.1, l, p.place, q.place), omega (arith, c.requires.0, p.place, p.long, q.place, q.long))

pub put_field-requires : goal.put_field-requires
put_field-requires c =
    let p = c.put_word-last.ensures in
    let q = c.put_hex-digits.ensures in
    let r = c.put_word-first.ensures in
    let l = length_hex c.args.text.now in
    let d = long_digits (length c.args.text.now) (omega (arith, c.requires.1)) in
    (omega (arith, c.requires.1, l, d, p.place, q.place, r.place), omega (arith, c.requires.0, p.place, p.long, q.place, q.long, r.place, r.long))

pub returns : goal.returns
returns c =
    text_put c.args.text.now c.put_word-last.ensures c.put_hex-digits.ensures c.put_word-first.ensures c.put_field.ensures
