use Rattle.symbols.proofs.Going.{hashed_none, stored_next, stored_whole}
use native.Mathlib.Omega.{arith}
use Rattle.symbols.proofs.put_each.Goals as goal

pub loop-k-init : goal.loop-k-init
loop-k-init g c = (omega arith, λ xs v. hashed_none _ _)

pub put_one-next-requires : goal.put_one-next-requires
put_one-next-requires g c = omega (arith, c.loop-k.invariant.0, c.loop-k.auto.syms, c.requires.room, c.loop-k-test.true)

pub loop-k-preserved : goal.loop-k-preserved
loop-k-preserved g c =
    let i = c.loop-k.invariant in (
      omega (arith, i.0, c.put_one-next.ensures.put.to_is),
      λ xs v. stored_next _ (i.1 xs v) v.long c.loop-k-test.true (v.each _ _ c.loop-k-test.true c.number.ensures) c.put_one-next.ensures,
    )

pub returns : goal.returns
returns g c = λ xs v. stored_whole _ (c.loop-k.invariant.1 xs v) v.long (omega (arith, c.loop-k.auto.k-end, c.loop-k-test.false))
