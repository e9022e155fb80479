-- `form_slots::clear` meets its contract. Assumes nothing.
use Prim.Native.Nat.{◌-◌}
use Rattle.form_slots.proofs.Slots.{Clearing}
use Rattle.form_slots.proofs.clear.Given as goal

abbrev pub invariant-loop-i : goal.invariant-loop-i
invariant-loop-i l = Clearing l.initial.slots l.slots l.base (l.count - l._i) l.class
