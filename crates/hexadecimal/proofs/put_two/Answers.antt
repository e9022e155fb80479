-- `hexadecimal::put_two` meets its contract. Four stores of bytes are one store of two units. Assumes nothing.
use Rattle.sequences.proofs.Store.{stores_two}
use lib.ListN.{length-set}
use native.Mathlib.Omega.{arith}
use Rattle.hexadecimal.proofs.put_two.Goals as goal

pub bounds-out-at : goal.bounds-out-at
bounds-out-at c = omega arith

pub overflow_add-out : goal.overflow_add-out
overflow_add-out c = omega arith

pub bounds-out-at-2 : goal.bounds-out-at-2
bounds-out-at-2 c = simp length-set (omega arith)

pub overflow_add-out-2 : goal.overflow_add-out-2
overflow_add-out-2 c = omega arith

pub bounds-out-at-3 : goal.bounds-out-at-3
bounds-out-at-3 c = simp length-set (omega arith)

pub overflow_add-out-3 : goal.overflow_add-out-3
overflow_add-out-3 c = omega arith

pub bounds-out-at-4 : goal.bounds-out-at-4
bounds-out-at-4 c = simp length-set (omega arith)

pub shape_of-out : goal.shape_of-out
shape_of-out c = simp length-set

pub returns : goal.returns
returns c = stores_two c.args.out.now c.args.at c.args.w c.args.x c.ranges.w.fits c.ranges.x.fits
