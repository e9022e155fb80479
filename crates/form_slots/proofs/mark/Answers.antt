-- `form_slots::mark` meets its contract. Assumes nothing.
use Rattle.form_slots.proofs.Slots.{marked_is}
use native.Mathlib.Omega.{arith}
use Rattle.form_slots.proofs.mark.Goals as goal

pub overflow_add-count : goal.overflow_add-count
overflow_add-count c = omega (arith, c.requires.2.each c.args.base)

pub returns : goal.returns
returns c = marked_is _ _ _
