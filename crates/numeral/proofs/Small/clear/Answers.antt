-- Nothing stands past the end of the small buffer. Assumes nothing.
use Prim.Native.Nat.{◌≤◌}
use native.Mathlib.Omega.{arith}
use lib.ListN.{length, drop_of_length-le}
use Rattle.numeral.proofs.Small.clear.Goals as goal

pub returns : goal.returns
returns c = let h : length c.self.inside.bytes ≤ 82 = omega (arith, c.self.told) in drop_of_length-le c.self.inside.bytes h
