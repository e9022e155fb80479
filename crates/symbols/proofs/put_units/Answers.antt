-- `symbols::put_units` meets its contract. Assumes nothing.
use Rattle.std.proofs.Common.{rules}
use Prim.Native.Nat.{◌+◌, ◌*◌}
use lib.ListN.{get_or}
use mathlib.Core.Path.{◌≡◌}
use Rattle.symbols.proofs.Texts.{unit_get, units_half}
use Rattle.symbols.proofs.put_units.Goals as goal

pub put_each-requires-clause-room : goal.put_each-requires-clause-room
put_each-requires-clause-room c = rw units_half c.requires

pub returns : goal.returns
returns c =
    let s = c.args.src.now in
    c.put_each.ensures _ (record { long = units_half s; each = λ k x h e. let f : x ≡ get_or s (2 * k) 0 + 256 * get_or s (2 * k + 1) 0 = search rules in unit_get s k x h f })
