-- `numeral::render` meets its contract. Assumes nothing.
use Rattle.std.proofs.Common.{rules}
use Rattle.chunks.specs.Chunks.{chunks_value}
use Rattle.numeral.proofs.Signed.{room_before, no_minus, room_minus, with_minus}
use Rattle.numeral.proofs.render.Goals as goal

pub put_whole-requires-clause-room : goal.put_whole-requires-clause-room
put_whole-requires-clause-room c =
    let f = c.put_fraction-above.ensures in
    room_before (chunks_value c.args.n) c.args.scale (search rules) f.left.0 c.requires.2 c.requires.1

pub put-requires : goal.put-requires
put-requires c =
    let f = c.put_fraction-above.ensures in
    room_minus (chunks_value c.args.n) c.args.scale (rw c.clear.ensures at f.put) f.left.0 c.requires.2 c.requires.1
    c.put_whole.ensures c.args.minus c.has_minus.ensures c.if-has_minus.true

pub returns-then-has_minus : goal.returns-then-has_minus
returns-then-has_minus c =
    let f = c.put_fraction-above.ensures in
    with_minus (chunks_value c.args.n) c.args.scale (rw c.clear.ensures at f.put) f.left.0 c.requires.2 c.requires.1
    c.put_whole.ensures c.args.minus c.has_minus.ensures c.if-has_minus.true c.put.ensures

pub returns-else-has_minus : goal.returns-else-has_minus
returns-else-has_minus c =
    let f = c.put_fraction-above.ensures in
    no_minus (chunks_value c.args.n) c.args.scale (rw c.clear.ensures at f.put) f.left.0 c.requires.2 c.requires.1
    c.put_whole.ensures c.args.minus c.has_minus.ensures c.if-has_minus.false
