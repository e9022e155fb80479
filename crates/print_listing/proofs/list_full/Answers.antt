-- `print_listing::list_full` meets its contract. Assumes nothing.
use Prim.Native.Nat.{ℕ}
use Rattle.machine.specs.Tables.{name_table, qname_table, event_table}
use Rattle.print_listing.proofs.Texts.{full_listed}
use lib.ListN.{length-replicate}
use Rattle.print_listing.proofs.list_full.Goals as goal

pub returns : goal.returns
returns c =
    full_listed (length-replicate {A = ℕ} name_table 0) (length-replicate {A = ℕ} qname_table 0) (length-replicate {A = ℕ} event_table 0) c.requires c.list.ensures
