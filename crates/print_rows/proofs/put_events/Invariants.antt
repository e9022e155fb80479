-- `print_rows::put_events` meets its contract. The loop's invariant is `RowsSoFar`. Assumes nothing.
use Prim.Native.Nat.{◌+◌, ◌*◌}
use Rattle.print_rows.proofs.Rows.{RowsSoFar, events_from}
use Rattle.print_rows.specs.Room.{qnames_end, event_line}
use Rattle.print_rows.proofs.put_events.Given as goal

abbrev pub invariant-loop-k : goal.invariant-loop-k
invariant-loop-k l = RowsSoFar (events_from l.events l.rows) (λ j. qnames_end + event_line * j) l.initial.text l.text l.end l.rows l.at l.k
