-- `rewrite_extract::write_refusal` is safe and ends. Assumes nothing.
use Rattle.print_lines.proofs.Laws.{short_digits, long_digits, line_length}
use Rattle.print_lines.specs.Lines.{refused_word, at_word}
use borrow.Author.Rules.{rules}
use native.Mathlib.Omega.{arith}
use Rattle.rewrite_extract.proofs.write_refusal.Goals as goal

pub put_line-from-requires : goal.put_line-from-requires
put_line-from-requires g c =
    let a = c.args.a in
    let x = short_digits a.number (search rules) in
    let y = long_digits a.place (search rules) in
    let l = line_length refused_word a.number at_word a.place in
    (omega (arith, l, x, y), omega arith)
