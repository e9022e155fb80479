-- `form_slots::name_number` meets its contract. Assumes nothing.
use Prim.Native.Nat.{◌+◌}
use Rattle.form_slots.proofs.Slots.{slot_number}
use mathlib.Core.Path.{refl}
use native.Mathlib.Omega.{arith}
use Rattle.form_slots.proofs.name_number.Goals as goal

pub returns-then-class-eq0 : goal.returns-then-class-eq0
returns-then-class-eq0 c = rw c.if-class-eq0.true

pub overflow_cast-result : goal.overflow_cast-result
overflow_cast-result c = omega (arith, c.requires.1.each (c.args.base + c.args.class.0))

pub returns : goal.returns
returns c = slot_number _ _ _ c.if-class-eq0.false refl
