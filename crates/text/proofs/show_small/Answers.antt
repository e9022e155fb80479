-- `text::show_small` meets its contract: the room decides. Assumes nothing.
use Rattle.std.proofs.Common.{ap}
use Rattle.text.proofs.Laid.{lays_short, lays_made, need_small}
use lib.ListN.{length}
use native.Mathlib.Omega.{arith}
use Rattle.text.proofs.show_small.Goals as goal

pub returns-then-buffer-need : goal.returns-then-buffer-need
returns-then-buffer-need c = record { each = λ units e. lays_short units _ (need_small units c.text-need.ensures e) c.if-buffer-need.true }

pub copy_to-requires : goal.copy_to-requires
copy_to-requires c = let e = ap length c.text-need.ensures in omega arith

pub returns : goal.returns
returns c = record {
  each = λ units e. lays_made units _ (need_small units c.text-need.ensures e) c.if-buffer-need.false (rw e at c.copy_to.ensures);
}
