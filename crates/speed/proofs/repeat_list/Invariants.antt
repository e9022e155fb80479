-- `speed::repeat_list` is safe and ends; the tables and the list keep their lengths. Assumes nothing.
use Rattle.std.proofs.Common.{◌≡◌, length}
use Rattle.machine.specs.Tables.{name_table, qname_table, event_table}
use Rattle.speed.proofs.repeat_list.Given as goal

abbrev pub invariant-loop : goal.invariant-loop
invariant-loop l = (length l.names ≡ name_table) × (length l.qnames ≡ qname_table) × (length l.events ≡ event_table) × (length l.pairs ≡ 16384)
