use Prim.Native.Nat.{ℕ}
use mathlib.Core.Path.{◌≡◌, sym, ◌∙◌, ap}
use Rattle.std.proofs.Common.{rules}
use Rattle.common.specs.declared.Common.TheVariants.{End, Begin, Fixed}
use Rattle.std.specs.Prelude.{Some, Ok}
use Rattle.machine.proofs.Goes as stops
use Rattle.reader.proofs.Short.{common_fine, ended, begun, valued}
use Rattle.reader.proofs.Walks.{goes, fine_ok, turned_ok, held_here, going, nearer, ending, starting}
use Rattle.rows.specs.Tables.{no_frame}
use Rattle.rows.specs.declared.Frame.{Frame}
use lib.ListN.{length, length-replicate}
use native.Mathlib.Omega.{arith}
use Rattle.reader.proofs.walk.Goals as goal

pub loop-events-init : goal.loop-events-init
loop-events-init c =
    let a = c.args in
    rw c.first_view-v.ensures
    (starting a.doc.now a.room a.version a.next _ _ _ _ c.requires.1 (length-replicate {A = ℕ} 1024 1) (length-replicate {A = ℕ} 1024 1) (length-replicate {A = Frame} 8 no_frame))

pub overflow_add-v : goal.overflow_add-v
overflow_add-v c = let h = held_here c.loop-events.invariant in omega arith

pub close_element-v-requires : goal.close_element-v-requires
close_element-v-requires c =
    let l = c.loop-events in
    let a = c.args in
    let h = held_here l.invariant in
    let f = common_fine a.doc.now l.v a.room c.common_at-common.ensures (let e : c.common_at-common.result ≡ Some End = search rules in e) in
    omega arith

pub loop-events-smaller-in-Some-End : goal.loop-events-smaller-in-Some-End
loop-events-smaller-in-Some-End c = let o = ended c.loop-events.invariant c.common_at-common.ensures (let e : c.common_at-common.result ≡ Some End = search rules in e) c.close_element-v.ensures.0 c.close_element-v.ensures.1 in omega arith

pub loop-events-preserved-in-Some-End : goal.loop-events-preserved-in-Some-End
loop-events-preserved-in-Some-End c = (ended c.loop-events.invariant c.common_at-common.ensures (let e : c.common_at-common.result ≡ Some End = search rules in e) c.close_element-v.ensures.0 c.close_element-v.ensures.1).walks

pub overflow_add-v-in-Some-Begin : goal.overflow_add-v-in-Some-Begin
overflow_add-v-in-Some-Begin c = let h = held_here c.loop-events.invariant in omega arith

pub add_element-v-requires : goal.add_element-v-requires
add_element-v-requires c =
    let l = c.loop-events in
    let a = c.args in
    let h = held_here l.invariant in
    let f = common_fine a.doc.now l.v a.room c.common_at-common.ensures (let e : c.common_at-common.result ≡ Some (Begin c.in-Some-Begin.number) = search rules in e) in
    omega arith

pub loop-events-smaller-in-Some-Begin : goal.loop-events-smaller-in-Some-Begin
loop-events-smaller-in-Some-Begin c = let o = begun c.loop-events.invariant c.common_at-common.ensures (let e : c.common_at-common.result ≡ Some (Begin c.in-Some-Begin.number) = search rules in e) c.add_element-v.ensures.0 c.add_element-v.ensures.1 in omega arith

pub loop-events-preserved-in-Some-Begin : goal.loop-events-preserved-in-Some-Begin
loop-events-preserved-in-Some-Begin c = (begun c.loop-events.invariant c.common_at-common.ensures (let e : c.common_at-common.result ≡ Some (Begin c.in-Some-Begin.number) = search rules in e) c.add_element-v.ensures.0 c.add_element-v.ensures.1).walks

pub add_value-v-requires : goal.add_value-v-requires
add_value-v-requires c =
    let l = c.loop-events in
    let a = c.args in
    let h = held_here l.invariant in
    let f = common_fine a.doc.now l.v a.room c.common_at-common.ensures (let e : c.common_at-common.result ≡ Some (Fixed c.in-Some-Fixed.size) = search rules in e) in
    omega arith

pub loop-events-smaller-in-Some-Fixed : goal.loop-events-smaller-in-Some-Fixed
loop-events-smaller-in-Some-Fixed c = let o = valued c.loop-events.invariant c.common_at-common.ensures (let e : c.common_at-common.result ≡ Some (Fixed c.in-Some-Fixed.size) = search rules in e) c.add_value-v.ensures.0 c.add_value-v.ensures.1 in omega arith

pub loop-events-preserved-in-Some-Fixed : goal.loop-events-preserved-in-Some-Fixed
loop-events-preserved-in-Some-Fixed c = (valued c.loop-events.invariant c.common_at-common.ensures (let e : c.common_at-common.result ≡ Some (Fixed c.in-Some-Fixed.size) = search rules in e) c.add_value-v.ensures.0 c.add_value-v.ensures.1).walks

pub turn-v-requires : goal.turn-v-requires
turn-v-requires c = (held_here c.loop-events.invariant, c.step_at-found.ensures.1)

pub loop-events-smaller : goal.loop-events-smaller
loop-events-smaller c =
    let f = fine_ok (length c.args.doc.now) c.loop-events.v c.args.room c.in-Ok.is c.step_at-found.ensures.1 in
    let n = nearer c.loop-events.invariant c.in-Ok.field-0 (goes c.in-Ok.field-0 (search rules)) f (turned_ok c.in-Ok.is c.turn-v.ensures) in omega arith

pub loop-events-preserved : goal.loop-events-preserved
loop-events-preserved c =
    let f = fine_ok (length c.args.doc.now) c.loop-events.v c.args.room c.in-Ok.is c.step_at-found.ensures.1 in
    going c.loop-events.invariant c.in-Ok.field-0 (sym c.in-Ok.is ∙ c.step_at-found.ensures.0) (goes c.in-Ok.field-0 (search rules)) f (turned_ok c.in-Ok.is c.turn-v.ensures)

pub returns-in-Ok-End : goal.returns-in-Ok-End
returns-in-Ok-End c = rw c.answered-in-Ok-End.ensures (ending c.loop-events.invariant _ _ stops.ended c.step_at-found.ensures.0 (c.in-Ok-End.is ∙ ap Ok (rw c.in-Ok-End.is at c.in-Ok-End.field-0-is)))

pub returns-in-Err : goal.returns-in-Err
returns-in-Err c = rw (c.answered.ensures, c.number.ensures) (ending c.loop-events.invariant _ _ stops.refused c.step_at-found.ensures.0 c.in-Err.is)
