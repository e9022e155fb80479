use Prim.Native.Nat.{ℕ, ◌+◌, ◌-◌, ◌%◌, ◌<◌}
use Rattle.twins.proofs.State.{moved, begun, turned, finished, turn_few, later_few}
use lib.ListN.{length-replicate, get_or, get_or-replicate}
use mathlib.Core.Path.{refl}
use native.Mathlib.Omega.{arith}
use Rattle.twins.proofs.link.Goals as goal

pub loop-i-init : goal.loop-i-init
loop-i-init c =
    begun _ _ _ _ _ _ c.requires.2 (length-replicate {A = ℕ} 4096 c.args.n) (length-replicate {A = ℕ} 2048 1)
    (length-replicate {A = ℕ} 2048 1) (λ b h. get_or-replicate 4096 b c.args.n 0 h)

pub find-j-requires : goal.find-j-requires
find-j-requires c =
    let t = moved c.loop-i.invariant c.loop-i-test.true in
    let i = c.loop-i.i - 1 in
    let l : i < c.args.n = omega (arith, t.in_range) in
    (l, t.chained, c.requires.3 i l, t.heads (get_or c.args.hashes.now (i + 1) 0 % 4096) (omega arith))

pub after-l-requires : goal.after-l-requires
after-l-requires c =
    let t = moved c.loop-i.invariant c.loop-i-test.true in
    (c.requires.0, later_few _ _ _ _ t c.find-j.ensures c.requires.0)

pub overflow_cast-later : goal.overflow_cast-later
overflow_cast-later c =
    let t = moved c.loop-i.invariant c.loop-i-test.true in
    let l = turn_few _ _ _ _ _ t c.find-j.ensures c.after-l.ensures in
    omega (arith, l, c.requires.0)

pub overflow_add-pairs : goal.overflow_add-pairs
overflow_add-pairs c =
    let t = moved c.loop-i.invariant c.loop-i-test.true in
    let l = turn_few _ _ _ _ _ t c.find-j.ensures c.after-l.ensures in
    omega (arith, t.bound, l, c.requires.0)

pub loop-i-preserved : goal.loop-i-preserved
loop-i-preserved c =
    let t = moved c.loop-i.invariant c.loop-i-test.true in
    let l : c.loop-i.i - 1 < c.args.n = omega (arith, t.in_range) in
    turned _ _ _ _ _ _ _ _ c.requires.0 l t _ _ _ _ (c.requires.3 _ l) refl c.find-j.ensures c.after-l.ensures

pub returns : goal.returns
returns c =
    finished _ _ _ _ _ _ _ _ _ c.loop-i.invariant c.loop-i-test.false
