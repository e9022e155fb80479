use Prim.Native.Nat.{ℕ, ◌%◌}
use Rattle.twins.proofs.Chain.{walk_first, walk_on, walk_hit, walk_end}
use mathlib.Core.Path.{ap}
use native.Mathlib.Omega.{arith}
use Rattle.twins.proofs.Parts.find.Goals as goal

pub loop-j-init : goal.loop-j-init
loop-j-init c =
    walk_first _ _ _ _ _ (ap (λ (x : ℕ). x % 4096) c.requires.2) c.requires.3

pub is_twin-requires : goal.is_twin-requires
is_twin-requires c =
    (c.requires.0, c.loop-j-test.true, c.requires.2)

pub returns-then-is_twin : goal.returns-then-is_twin
returns-then-is_twin c = walk_hit _ _ _ _ _ c.loop-j.invariant c.is_twin.ensures c.if-is_twin.true

pub loop-j-smaller : goal.loop-j-smaller
loop-j-smaller c =
    let w = c.loop-j in
    let k = c.requires.1.linked w.j (omega (arith, w.invariant.after)) c.loop-j-test.true in
    omega (arith, k.after, k.within)

pub loop-j-preserved : goal.loop-j-preserved
loop-j-preserved c =
    let w = c.loop-j in
    let l = c.loop-j-test.true in
    rw c.from-j.ensures
    (walk_on _ _ _ _ _ _ w.invariant l c.is_twin.ensures c.if-is_twin.false
    (c.requires.1.linked w.j (omega (arith, w.invariant.after)) l))

pub returns : goal.returns
returns c = walk_end _ _ _ _ c.loop-j.invariant c.loop-j-test.false
