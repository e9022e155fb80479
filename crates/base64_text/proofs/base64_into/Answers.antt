-- `base64_text::base64_into` meets its contract. The text of the whole groups, then that of what is left. Assumes nothing.
use Prim.Native.Nat.{◌/◌}
use Rattle.base64_text.proofs.Base64.{groups_last}
use lib.ListN.{length}
use native.Mathlib.Omega.{arith}
use Rattle.base64_text.proofs.base64_into.Goals as goal

pub returns : goal.returns
returns c =
    groups_last c.args.p.now c.args.out.now (length c.args.p.now / 3) (omega arith) c.requires.1
    c.put_groups.ensures c.put_last.ensures
