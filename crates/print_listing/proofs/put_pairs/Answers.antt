use Rattle.print_listing.proofs.Laws.{lines_start, pair_room_fact, lines_next, lines_end}
use native.Mathlib.Omega.{arith}
use Rattle.print_listing.proofs.put_pairs.Goals as goal

pub loop-k-init : goal.loop-k-init
loop-k-init c = lines_start c.args.pairs.now c.args.text.now c.args.count c.requires.0 c.requires.1

pub overflow_mul-k : goal.overflow_mul-k
overflow_mul-k c = let f = c.loop-k.invariant in omega (arith, f.few, c.requires.1, c.ranges)

pub cell-earlier-requires : goal.cell-earlier-requires
cell-earlier-requires c = let f = c.loop-k.invariant in omega (arith, f.few, f.held, c.loop-k-test.true)

pub overflow_mul-k-in-loop-k : goal.overflow_mul-k-in-loop-k
overflow_mul-k-in-loop-k c = let f = c.loop-k.invariant in omega (arith, f.few, c.requires.1)

pub overflow_add-k : goal.overflow_add-k
overflow_add-k c = let f = c.loop-k.invariant in omega (arith, f.few, c.requires.1)

pub cell-later-requires : goal.cell-later-requires
cell-later-requires c = let f = c.loop-k.invariant in omega (arith, f.few, f.held, c.loop-k-test.true)

pub put_line-at-requires : goal.put_line-at-requires
put_line-at-requires c =
    let f = c.loop-k.invariant in
    let s = pair_room_fact f (omega (arith, c.loop-k-test.true)) c.cell-earlier.ensures c.cell-later.ensures in
    (omega (arith, s, f.room, c.loop-k-test.true), omega (arith, f.put.place, f.put.long))

pub loop-k-preserved : goal.loop-k-preserved
loop-k-preserved c = lines_next c.loop-k.invariant (omega (arith, c.loop-k-test.true)) c.cell-earlier.ensures c.cell-later.ensures c.put_line-at.ensures

pub shape_of-text : goal.shape_of-text
shape_of-text c = c.loop-k.invariant.put.long

pub returns : goal.returns
returns c = lines_end c.loop-k.invariant c.loop-k-test.false
