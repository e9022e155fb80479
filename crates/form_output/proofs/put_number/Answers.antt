use Rattle.form_output.proofs.Steps.{left_start, left_next, left_low, left_end}
use lib.ListN.{length-set}
use native.Mathlib.Omega.{arith}
use Rattle.form_output.proofs.put_number.Goals as goal

pub loop-left-init : goal.loop-left-init
loop-left-init c = left_start _ _ _ c.requires.0

pub overflow_cast-left : goal.overflow_cast-left
overflow_cast-left c = omega arith

pub overflow_add-p : goal.overflow_add-p
overflow_add-p c = omega (arith, left_low c.loop-left.invariant, c.requires)

pub loop-left-preserved : goal.loop-left-preserved
loop-left-preserved c = left_next c.loop-left.invariant c.loop-left-test.true c.put.ensures

pub overflow_cast-left-2 : goal.overflow_cast-left-2
overflow_cast-left-2 c = omega arith

pub overflow_add-result : goal.overflow_add-result
overflow_add-result c = omega (arith, left_low c.loop-left.invariant, c.requires)

pub shape_of-out : goal.shape_of-out
shape_of-out c = rw (c.put-2.ensures, length-set) c.loop-left.invariant.long

pub returns : goal.returns
returns c = left_end c.loop-left.invariant c.loop-left-test.false c.put-2.ensures
