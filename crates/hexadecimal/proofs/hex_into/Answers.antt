use Rattle.hexadecimal.proofs.Hex.{hex_none, hex_next, hex_all}
use lib.ListN.{length}
use lib.Seq.{length-sets}
use mathlib.Core.Path.{◌∙◌, ap}
use native.Mathlib.Omega.{arith}
use Rattle.hexadecimal.proofs.hex_into.Goals as goal

pub loop-i-init : goal.loop-i-init
loop-i-init c = hex_none _

pub put_byte-requires : goal.put_byte-requires
put_byte-requires c = omega (arith, simp length-sets at (ap length c.loop-i.invariant))

pub loop-i-preserved : goal.loop-i-preserved
loop-i-preserved c = hex_next _ _ _ c.loop-i-test.true c.loop-i.invariant c.put_byte.ensures

pub shape_of-out : goal.shape_of-out
shape_of-out c = ap length c.loop-i.invariant ∙ simp length-sets

pub returns : goal.returns
returns c = hex_all _ _ _ c.requires.1 c.loop-i-test.false c.loop-i.invariant
