-- `print_lines::put_field` meets its contract: the number is put first, the word before it. Assumes nothing.
use Rattle.print_lines.proofs.Laws.{both_put, shorter, left}
use Rattle.print_lines.proofs.put_field.Goals as goal

pub put_decimal-at-requires : goal.put_decimal-at-requires
put_decimal-at-requires c = (shorter c.args.word.now _ _ c.requires.0, c.requires.1)

pub put_word-requires : goal.put_word-requires
put_word-requires c = left c.args.word.now c.put_decimal-at.ensures c.requires.0 c.requires.1

pub returns : goal.returns
returns c = both_put c.put_decimal-at.ensures c.put_word.ensures
