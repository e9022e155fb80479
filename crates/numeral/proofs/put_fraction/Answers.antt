-- `numeral::put_fraction` meets its contract. Assumes nothing.
use Rattle.numeral.proofs.Last.{point_room, no_point, with_point}
use Rattle.numeral.proofs.put_fraction.Goals as goal

pub put-requires : goal.put-requires
put-requires g c = point_room c.args.k _ _ c.put_last-above.ensures.put c.requires.room

pub returns-then-k-ne0-clause-put : goal.returns-then-k-ne0-clause-put
returns-then-k-ne0-clause-put g c = with_point c.args.k _ _ c.put_last-above.ensures.put c.if-k-ne0.true c.put.ensures

pub returns-else-k-ne0-clause-put : goal.returns-else-k-ne0-clause-put
returns-else-k-ne0-clause-put g c = no_point c.args.k _ _ c.put_last-above.ensures.put c.if-k-ne0.false
