-- `print_rows::put_lines` meets its contract. The loop's invariant is `RowsSoFar`. Assumes nothing.
use Rattle.print_rows.proofs.Rows.{RowsSoFar, room_from, lines_from}
use Rattle.print_rows.specs.Table.{line_room}
use Rattle.print_rows.proofs.put_lines.Given as goal

abbrev pub invariant-loop-k : goal.invariant-loop-k
invariant-loop-k l = RowsSoFar (lines_from l.word l.width l.table l.rows) (room_from (line_room l.word l.width) l.end l.rows) l.initial.text l.text l.end l.rows l.at l.k
