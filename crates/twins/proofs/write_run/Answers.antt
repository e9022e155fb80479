use Rattle.twins.proofs.Run.{run_first, run_fits, run_same, run_more, run_end}
use lib.ListN.{length-set}
use native.Mathlib.Omega.{arith}
use Rattle.twins.proofs.write_run.Goals as goal

pub loop-j-init : goal.loop-j-init
loop-j-init c =
    run_first _ _ _ _ _ _ (c.requires.2 c.args.i (omega arith) c.requires.1)

pub offset_bounds-pairs-to : goal.offset_bounds-pairs-to
offset_bounds-pairs-to c = omega (arith, run_fits c.loop-j.invariant c.loop-j-test.true c.requires.3)

pub bounds-pairs-to : goal.bounds-pairs-to
bounds-pairs-to c = omega (arith, run_fits c.loop-j.invariant c.loop-j-test.true c.requires.3)

pub overflow_add-pairs : goal.overflow_add-pairs
overflow_add-pairs c = omega (arith, run_fits c.loop-j.invariant c.loop-j-test.true c.requires.3)

pub offset_bounds-pairs-to-in-loop-j : goal.offset_bounds-pairs-to-in-loop-j
offset_bounds-pairs-to-in-loop-j c = omega (arith, run_fits c.loop-j.invariant c.loop-j-test.true c.requires.3)

pub bounds-pairs-to-in-loop-j : goal.bounds-pairs-to-in-loop-j
bounds-pairs-to-in-loop-j c = simp length-set (omega (arith, run_fits c.loop-j.invariant c.loop-j-test.true c.requires.3))

pub overflow_add-to : goal.overflow_add-to
overflow_add-to c = omega (arith, run_fits c.loop-j.invariant c.loop-j-test.true c.requires.3)

pub loop-j-smaller : goal.loop-j-smaller
loop-j-smaller c =
    let k = c.requires.2 c.loop-j.j (omega arith) c.loop-j-test.true in
    omega (arith, k.after, k.within)

pub loop-j-preserved : goal.loop-j-preserved
loop-j-preserved c =
    run_more c.loop-j.invariant _ c.loop-j-test.true (c.requires.2 c.loop-j.j (omega arith) c.loop-j-test.true)

pub shape_of-pairs : goal.shape_of-pairs
shape_of-pairs c = run_same c.loop-j.invariant

pub returns : goal.returns
returns c = run_end c.loop-j.invariant c.loop-j-test.false
