-- `numeral::put_last` meets its contract. Assumes nothing.
use Rattle.numeral.proofs.Last.{last_start, last_room, last_next, last_end}
use Rattle.numeral.proofs.put_last.Goals as goal

pub loop-init : goal.loop-init
loop-init g c = (last_start _ _, c.requires.fits)

pub put-requires : goal.put-requires
put-requires g c = last_room c.loop.invariant.0 c.loop-test.true c.requires.room

pub loop-preserved : goal.loop-preserved
loop-preserved g c =
    (last_next c.loop.invariant.0 _ _ c.put.ensures c.digit.ensures c.tenth-v.ensures.0, c.tenth-v.ensures.1)

pub returns-clause-put : goal.returns-clause-put
returns-clause-put g c = (last_end c.loop.invariant.0 c.loop-test.false c.loop.auto.counter-end).0

pub returns-clause-left : goal.returns-clause-left
returns-clause-left g c = ((last_end c.loop.invariant.0 c.loop-test.false c.loop.auto.counter-end).1, c.loop.invariant.1)
