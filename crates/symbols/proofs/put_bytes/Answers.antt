-- `symbols::put_bytes` meets its contract. Assumes nothing.
use Rattle.std.proofs.Common.{rules}
use Prim.Native.Nat.{◌+◌, ◌*◌}
use mathlib.Core.Path.{◌≡◌}
use lib.ListN.{get_or, length-map}
use Rattle.symbols.proofs.Texts.{byte_get}
use Rattle.symbols.proofs.put_bytes.Goals as goal

pub returns : goal.returns
returns c =
    let s = c.args.src.now in
    c.put_each.ensures _ (record { long = simp length-map; each = λ k x h e. let f : x ≡ 65542 + 8 * get_or s k 0 = search rules in byte_get s k x h f })
