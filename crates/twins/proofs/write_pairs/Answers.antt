use Rattle.twins.proofs.Links.{nexts_of}
use Rattle.twins.proofs.Run.{listed_more, listed_fits, room_after, all_written}
use Rattle.twins.proofs.write_pairs.Goals as goal

pub write_run-at-requires : goal.write_run-at-requires
write_run-at-requires c =
    let l = c.loop-i-test.true in
    (c.requires.0, l, nexts_of _ _ _ _ c.requires.2, listed_fits c.loop-i.invariant l (room_after _ _ _ c.args.pairs.now c.requires.3))

pub loop-i-preserved : goal.loop-i-preserved
loop-i-preserved c =
    let l = c.loop-i-test.true in
    let w = c.write_run-at.ensures in
    listed_more c.loop-i.invariant _ _ l w.0 w.1

pub returns : goal.returns
returns c =
    all_written _ _ _ c.args.pairs.now c.requires.3 _ _ _ c.loop-i.invariant c.loop-i-test.false
