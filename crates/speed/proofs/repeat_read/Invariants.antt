-- `speed::repeat_read` is safe and ends; the tables keep their lengths. Assumes nothing.
use Rattle.std.proofs.Common.{◌≡◌, length}
use Rattle.machine.specs.Tables.{name_table, qname_table, event_table}
use Rattle.speed.proofs.repeat_read.Given as goal

abbrev pub invariant-loop : goal.invariant-loop
invariant-loop l = (length l.names ≡ name_table) × (length l.qnames ≡ qname_table) × (length l.events ≡ event_table)
