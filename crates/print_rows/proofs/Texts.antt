-- The lines of all rows. Assumes nothing.
use Prim.Native.Nat.{ℕ, ◌*◌, ◌≤◌}
use mathlib.Core.List.{List}
use lib.ListN.{length}
use Rattle.machine.specs.Machine.{EventRow}
use Rattle.machine.specs.Tables.{name_rows_in, qname_rows_in}
use Rattle.token.specs.Tokens.{name_width, qname_width}
use Rattle.print_lines.specs.Lines.{PutBefore}
use Rattle.print_lines.proofs.Laws.{both_put}
use Rattle.print_rows.specs.Rows.{name_word, qname_word, event_lines, row_lines}
use Rattle.print_rows.specs.Table.{table_lines}
use Rattle.print_rows.proofs.Rows.{names_table, qnames_table}

pub rows_put : (n q : ℕ) (names qnames : List ℕ) (es : List EventRow) {t t₁ t₂ t₃ : List ℕ} {end a₁ a₂ a₃ : ℕ} → name_width * n ≤ length names → qname_width * q ≤ length qnames
    → PutBefore t t₁ end a₁ (event_lines es) → PutBefore t₁ t₂ a₁ a₂ (table_lines qname_word qname_width q qnames) → PutBefore t₂ t₃ a₂ a₃ (table_lines name_word name_width n names)
    → PutBefore t t₃ end a₃ (row_lines (name_rows_in n names) (qname_rows_in q qnames) es)
unfolding row_lines
rows_put n q names qnames es h g e p r = rw (names_table n names h, qnames_table q qnames g) (both_put (both_put e p) r)
