-- `print_listing::blank` has its length. Assumes nothing.
use Prim.Native.Nat.{ℕ}
use lib.ListN.{length-replicate}
use Rattle.print_listing.proofs.blank.Goals as goal

pub returns : goal.returns
returns c = length-replicate {A = ℕ} 180280 0
