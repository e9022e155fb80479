use Rattle.base64_text.proofs.Base64.{groups_none, groups_next}
use lib.ListN.{length}
use lib.Seq.{length-sets}
use mathlib.Core.Path.{◌≡◌, ◌∙◌, ap}
use native.Mathlib.Omega.{arith}
use Rattle.base64_text.proofs.put_groups.Goals as goal

pub loop-k-init : goal.loop-k-init
loop-k-init c = groups_none _

pub put_three-requires : goal.put_three-requires
put_three-requires c =
    (c.requires.0, omega (arith, simp length-sets at (ap length c.loop-k.invariant)))

pub loop-k-preserved : goal.loop-k-preserved
loop-k-preserved c =
    groups_next c.args.p.now _ c.loop-k.k (omega arith)
    c.loop-k.invariant c.put_three.ensures

pub shape_of-out : goal.shape_of-out
shape_of-out c = ap length c.loop-k.invariant ∙ simp length-sets

pub returns : goal.returns
returns c = let e : c.loop-k.k ≡ c.args.n = omega (arith, c.loop-k-test.false, c.loop-k.auto.k-end) in rw e at c.loop-k.invariant
