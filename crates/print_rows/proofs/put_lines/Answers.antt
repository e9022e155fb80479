use Prim.Native.Nat.{◌-◌, ◌≤◌}
use Rattle.print_lines.proofs.Laws.{both_put}
use Rattle.print_rows.proofs.Rows.{rows_start, rows_next, room_from, times_less, lines_from, lines_none, lines_next, lines_end}
use Rattle.print_rows.specs.Table.{line_room}
use native.Mathlib.Nat.{mul-le-mul, mul-le-mul_left}
use native.Mathlib.Omega.{arith}
use Rattle.print_rows.proofs.put_lines.Goals as goal

pub loop-k-init : goal.loop-k-init
loop-k-init c =
    let a = c.args in
    rows_start (lines_from a.word.now a.width a.table.now a.rows) (room_from (line_room a.word.now a.width) a.end a.rows) a.text.now a.end a.rows
    (omega (arith, c.requires.3)) (lines_none a.word.now a.width a.table.now a.rows)

pub overflow_mul-width : goal.overflow_mul-width
overflow_mul-width c =
    let l = c.loop-k in
    let few : l.k - 1 ≤ 1024 = omega (arith, l.invariant.few, c.requires.1) in
    omega (arith, mul-le-mul c.requires.0 few)

pub put_numbers-at-requires : goal.put_numbers-at-requires
put_numbers-at-requires c =
    let l = c.loop-k in
    let f = l.invariant in
    let more = c.loop-k-test.true in
    let few : l.k - 1 ≤ 1024 = omega (arith, f.few, c.requires.1) in
    let row = times_less c.args.width l.k (omega (arith, more)) in
    let line = times_less (line_room c.args.word.now c.args.width) l.k (omega (arith, more)) in (
      omega (arith, row, mul-le-mul_left c.args.width f.few, c.requires.2),
      omega (arith, mul-le-mul c.requires.0 few),
      c.requires.0,
      omega (arith, f.roomy, line),
      omega (arith, f.put.place, f.put.long, c.requires.4),
    )

pub put_word-at-requires : goal.put_word-at-requires
put_word-at-requires c =
    let f = c.loop-k.invariant in
    let p = c.put_numbers-at.ensures in
    let more = c.loop-k-test.true in
    let line = times_less (line_room c.args.word.now c.args.width) c.loop-k.k (omega (arith, more)) in
    (omega (arith, f.roomy, line, p.1), omega (arith, f.put.place, f.put.long, p.0.place, p.0.long, c.requires.4))

pub loop-k-preserved : goal.loop-k-preserved
loop-k-preserved c =
    let f = c.loop-k.invariant in
    let k = c.loop-k.k in
    let p = c.put_numbers-at.ensures in
    let q = c.put_word-at.ensures in
    let more = c.loop-k-test.true in
    let line = times_less (line_room c.args.word.now c.args.width) k (omega (arith, more)) in
    rows_next _ f (both_put p.0 q) (lines_next c.args.word.now c.args.width c.args.table.now c.args.rows k (omega (arith, more)) f.few)
    (omega (arith, p.1, q.place, f.roomy, line))

pub shape_of-text : goal.shape_of-text
shape_of-text c = c.loop-k.invariant.put.long

pub returns : goal.returns
returns c =
    let f = c.loop-k.invariant in
    let e = lines_end c.args.word.now c.args.width c.args.table.now c.args.rows c.loop-k.k c.loop-k-test.false in
    (rw e at f.put, omega (arith, f.roomy))
