-- `form_slots::qname_number` meets its contract. Assumes nothing.
use Prim.Native.Nat.{◌+◌}
use Rattle.form_slots.proofs.Slots.{row_number}
use mathlib.Core.Path.{refl}
use native.Mathlib.Omega.{arith}
use Rattle.form_slots.proofs.qname_number.Goals as goal

pub overflow_cast-result : goal.overflow_cast-result
overflow_cast-result c = omega (arith, c.requires.2.each (c.args.base + c.args.class.0))

pub returns : goal.returns
returns c = row_number _ _ _ c.requires.0 refl
