-- `print_rows::put_numbers` meets its contract: a line feed, and the numbers from the last to the first. Assumes nothing.
use Prim.Native.Nat.{◌-◌, ◌*◌}
use Rattle.print_rows.proofs.Rows.{RowsSoFar, numbers_from}
use Rattle.print_rows.proofs.put_numbers.Given as goal

abbrev pub invariant-loop-k : goal.invariant-loop-k
invariant-loop-k l = RowsSoFar (numbers_from l.table l.from l.count) (λ j. l.initial.at - 11 * (l.count - j)) l.initial.text l.text l.initial.at l.count l.at l.k
