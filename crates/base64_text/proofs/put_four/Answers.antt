-- `base64_text::put_four` meets its contract. Eight stores of bytes are one store of four units. Assumes nothing.
use Rattle.sequences.proofs.Store.{stores_four}
use lib.ListN.{length-set}
use native.Mathlib.Omega.{arith}
use Rattle.base64_text.proofs.put_four.Goals as goal

pub bounds-out-at : goal.bounds-out-at
bounds-out-at c = omega arith

pub overflow_add-out : goal.overflow_add-out
overflow_add-out c = omega arith

pub bounds-out-at-2 : goal.bounds-out-at-2
bounds-out-at-2 c = simp length-set (omega arith)

pub overflow_add-out-2 : goal.overflow_add-out-2
overflow_add-out-2 c = omega arith

pub bounds-out-at-3 : goal.bounds-out-at-3
bounds-out-at-3 c = simp length-set (omega arith)

pub overflow_add-out-3 : goal.overflow_add-out-3
overflow_add-out-3 c = omega arith

pub bounds-out-at-4 : goal.bounds-out-at-4
bounds-out-at-4 c = simp length-set (omega arith)

pub overflow_add-out-4 : goal.overflow_add-out-4
overflow_add-out-4 c = omega arith

pub bounds-out-at-5 : goal.bounds-out-at-5
bounds-out-at-5 c = simp length-set (omega arith)

pub overflow_add-out-5 : goal.overflow_add-out-5
overflow_add-out-5 c = omega arith

pub bounds-out-at-6 : goal.bounds-out-at-6
bounds-out-at-6 c = simp length-set (omega arith)

pub overflow_add-out-6 : goal.overflow_add-out-6
overflow_add-out-6 c = omega arith

pub bounds-out-at-7 : goal.bounds-out-at-7
bounds-out-at-7 c = simp length-set (omega arith)

pub overflow_add-out-7 : goal.overflow_add-out-7
overflow_add-out-7 c = omega arith

pub bounds-out-at-8 : goal.bounds-out-at-8
bounds-out-at-8 c = simp length-set (omega arith)

pub shape_of-out : goal.shape_of-out
shape_of-out c = simp length-set

pub returns : goal.returns
returns c =
    stores_four c.args.out.now c.args.at c.args.w c.args.x c.args.y c.args.z c.ranges.w.fits
    c.ranges.x.fits c.ranges.y.fits c.ranges.z.fits
