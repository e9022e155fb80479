use Prim.Native.Nat.{◌+◌, ◌*◌}
use Rattle.print_lines.proofs.Laws.{both_put}
use Rattle.print_rows.proofs.Rows.{rows_start, rows_next, events_from, events_none, events_next, events_end}
use Rattle.print_rows.specs.Room.{qnames_end, event_line}
use native.Mathlib.Omega.{arith}
use Rattle.print_rows.proofs.put_events.Goals as goal

pub loop-k-init : goal.loop-k-init
loop-k-init c =
    rows_start (events_from c.args.events.now c.args.rows) (λ j. qnames_end + event_line * j) c.args.text.now c.args.end c.args.rows
    c.requires.2 (events_none c.args.events.now c.args.rows)

pub overflow_mul-k : goal.overflow_mul-k
overflow_mul-k c = omega (arith, c.loop-k.invariant.few, c.requires.1)

pub overflow_add-k : goal.overflow_add-k
overflow_add-k c = omega (arith, c.loop-k.invariant.few, c.requires.1)

pub put_numbers-at-requires : goal.put_numbers-at-requires
put_numbers-at-requires c =
    let f = c.loop-k.invariant in
    let more = c.loop-k-test.true in
    (omega (arith, f.few, more, c.requires.0), omega (arith, f.few, more, c.requires.1), omega arith, omega (arith, f.roomy, more), omega (arith, f.put.place, f.put.long, c.requires.3))

pub overflow_mul-k-in-loop-k : goal.overflow_mul-k-in-loop-k
overflow_mul-k-in-loop-k c = omega (arith, c.loop-k.invariant.few, c.requires.1)

pub cell-requires : goal.cell-requires
cell-requires c = omega (arith, c.loop-k.invariant.few, c.loop-k-test.true, c.requires.0)

pub put_token-at-requires : goal.put_token-at-requires
put_token-at-requires c =
    let f = c.loop-k.invariant in
    let p = c.put_numbers-at.ensures in
    let more = c.loop-k-test.true in
    (omega (arith, f.roomy, p.1, more), omega (arith, f.put.place, f.put.long, p.0.place, p.0.long, c.requires.3))

pub loop-k-preserved : goal.loop-k-preserved
loop-k-preserved c =
    let f = c.loop-k.invariant in
    let p = c.put_numbers-at.ensures in
    let q = c.put_token-at.ensures in
    let more = c.loop-k-test.true in
    rows_next _ f (both_put p.0 q.0)
    (events_next c.args.events.now c.args.rows c.loop-k.k (omega (arith, more)) f.few c.requires.0 c.cell.ensures.0)
    (omega (arith, p.1, q.1, f.roomy, more))

pub shape_of-text : goal.shape_of-text
shape_of-text c = c.loop-k.invariant.put.long

pub returns : goal.returns
returns c =
    let f = c.loop-k.invariant in
    let e = events_end c.args.events.now c.args.rows c.loop-k.k c.loop-k-test.false in
    (rw e at f.put, omega (arith, f.roomy))
