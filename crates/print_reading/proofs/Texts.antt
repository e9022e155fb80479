-- What stands at the end of the text is what the program prints. Assumes nothing.
use Prim.Native.Nat.{ℕ, ◌≤◌}
use mathlib.Core.Path.{◌≡◌, refl}
use mathlib.Core.List.{List, ◌++◌}
use native.Mathlib.Omega.{arith}
use lib.ListN.{length, take}
use Rattle.machine.specs.Machine.{reading, room_in, Reads, full}
use Rattle.machine.specs.Tables.{name_table, qname_table, event_table, name_rows_in, qname_rows_in, event_rows_in}
use Rattle.machine.specs.declared.Answer.{Answer}
use Rattle.filled.proofs.Rooms.{rows_few}
use Rattle.filled.proofs.Filled.{names_read, qnames_read, events_read_fact, names_back, qnames_back, events_back}
use Rattle.print_lines.specs.Lines.{PutBefore}
use Rattle.print_lines.proofs.Laws.{both_put, whole_put}
use Rattle.print_reading.specs.Printed.{verdict, counts, answer_line, printed}
use Rattle.print_rows.specs.Rows.{row_lines}

pub answer_put : (a : Answer) {t t₁ t₂ : List ℕ} {end mid at : ℕ} → PutBefore t t₁ end mid (counts a.names a.qnames a.events a.version)
    → PutBefore t₁ t₂ mid at (verdict a) → PutBefore t t₂ end at (answer_line a)
unfolding answer_line
answer_put a p q = both_put p q

module _ (doc : List ℕ) {names qnames events names' qnames' events' : List ℕ} {a : Answer} (x : length names ≡ name_table) (y : length qnames ≡ qname_table) (z : length events ≡ event_table)
    (h : Reads (reading doc (room_in (length names) (length qnames) (length events))) names qnames events names' qnames' events' a) where
  rooms : room_in (length names) (length qnames) (length events) ≡ full
  rooms = rw (x, y, z) refl

  read : Reads (reading doc full) names qnames events names' qnames' events' a
  read = rw rooms at h

  -- a table holds no more rows than 01 allows
  pub rows_held : (a.names ≤ 1024) × (a.qnames ≤ 1024) × (a.events ≤ 4096)
  rows_held =
      let f = rows_few doc full in
      let n = names_read read in
      let q = qnames_read read in
      let e = events_read_fact read in
      (omega (arith, f.names), omega (arith, f.qnames), omega (arith, f.events))

  pub all_printed : {t t₁ t₂ : List ℕ} {mid at : ℕ} → length t ≡ 239771
      → PutBefore t t₁ 239771 mid (row_lines (name_rows_in a.names names') (qname_rows_in a.qnames qnames') (event_rows_in a.events events'))
      → PutBefore t₁ t₂ mid at (answer_line a) → t₂ ≡ take at t ++ printed doc
  unfolding printed
  all_printed w p q = whole_put w (both_put p q) (rw (names_back read, qnames_back read, events_back read, read.answer_is) refl)
