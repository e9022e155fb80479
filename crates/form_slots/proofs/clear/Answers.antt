use Prim.Native.Nat.{◌+◌}
use Rattle.form_slots.proofs.Slots.{clear_start, next_in, previous_is, clear_next, clear_all}
use Rattle.machine.specs.Tables.{class_count}
use native.Mathlib.Omega.{arith}
use Rattle.form_slots.proofs.clear.Goals as goal

pub overflow_cast-class : goal.overflow_cast-class
overflow_cast-class c = omega (arith, c.requires.1.each (c.args.base + class_count))

pub loop-i-init : goal.loop-i-init
loop-i-init c = clear_start _ _ c.requires.2

pub overflow_add-slots : goal.overflow_add-slots
overflow_add-slots c = let room = c.requires.0 in let t = c.loop-i-test.true in omega (arith, room, next_in c.loop-i.invariant (omega arith))

pub offset_bounds-slots-base-in-loop-i : goal.offset_bounds-slots-base-in-loop-i
offset_bounds-slots-base-in-loop-i c = let room = c.requires.0 in let t = c.loop-i-test.true in omega (arith, room, next_in c.loop-i.invariant (omega arith))

pub bounds-slots-base-in-loop-i : goal.bounds-slots-base-in-loop-i
bounds-slots-base-in-loop-i c = let room = c.requires.0 in let t = c.loop-i-test.true in omega (arith, room, next_in c.loop-i.invariant (omega arith))

pub overflow_add-class-in-loop-i-2 : goal.overflow_add-class-in-loop-i-2
overflow_add-class-in-loop-i-2 c = let room = c.requires.0 in let t = c.loop-i-test.true in omega (arith, room, next_in c.loop-i.invariant (omega arith))

pub offset_bounds-slots-base-in-loop-i-2 : goal.offset_bounds-slots-base-in-loop-i-2
offset_bounds-slots-base-in-loop-i-2 c = let room = c.requires.0 in let t = c.loop-i-test.true in omega (arith, room, next_in c.loop-i.invariant (omega arith))

pub bounds-slots-base-in-loop-i-2 : goal.bounds-slots-base-in-loop-i-2
bounds-slots-base-in-loop-i-2 c = let room = c.requires.0 in let t = c.loop-i-test.true in omega (arith, room, next_in c.loop-i.invariant (omega arith))

pub overflow_cast-class-in-loop-i : goal.overflow_cast-class-in-loop-i
overflow_cast-class-in-loop-i c =
    let t = c.loop-i-test.true in
    let e = previous_is c.loop-i.invariant (omega arith) in
    omega (arith, e, c.requires.1.each ((c.args.base + class_count) + c.loop-i.class))

pub loop-i-preserved : goal.loop-i-preserved
loop-i-preserved c =
    let p = c.requires in
    clear_next _ _ p.0 p.1 p.2 c.loop-i.invariant c.loop-i-test.true

pub returns : goal.returns
returns c =
    let t = c.loop-i-test.false in
    clear_all c.requires.0 c.requires.1 c.loop-i.invariant (omega arith)
