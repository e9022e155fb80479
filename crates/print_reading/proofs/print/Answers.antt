-- `print_reading::print` meets its contract. Assumes nothing.
use Prim.Native.Nat.{ℕ}
use Rattle.filled.proofs.Filled.{names_long, qnames_long, events_long}
use Rattle.machine.specs.Tables.{name_table, qname_table, event_table}
use Rattle.print_reading.proofs.Texts.{rows_held, all_printed}
use lib.ListN.{length-replicate}
use native.Mathlib.Omega.{arith}
use Rattle.print_reading.proofs.print.Goals as goal

pub put_rows-end-requires : goal.put_rows-end-requires
put_rows-end-requires c =
    let h = c.read-a.ensures in
    let f = rows_held c.args.doc.now (length-replicate {A = ℕ} name_table 0) (length-replicate {A = ℕ} qname_table 0) (length-replicate {A = ℕ} event_table 0) h in
    (c.requires, f.0, f.1, f.2, names_long h, qnames_long h, events_long h)

pub returns : goal.returns
returns c =
    let p = c.put_rows-end.ensures in
    let q = c.put_answer.ensures in (
      all_printed c.args.doc.now (length-replicate {A = ℕ} name_table 0) (length-replicate {A = ℕ} qname_table 0) (length-replicate {A = ℕ} event_table 0) c.read-a.ensures c.requires p.0 q,
      omega (arith, p.0.place, q.place),
    )
