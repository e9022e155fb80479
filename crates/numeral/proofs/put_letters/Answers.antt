-- `numeral::put_letters` meets its contract. Assumes nothing.
use Rattle.std.proofs.Common.{rules}
use Rattle.numeral.proofs.Stores.{lettered_start, lettered_room, lettered_next, lettered_end}
use Rattle.numeral.proofs.put_letters.Goals as goal

pub loop-letter-init : goal.loop-letter-init
loop-letter-init c = lettered_start (search rules)

pub put-requires : goal.put-requires
put-requires c = lettered_room c.loop-letter.invariant _ _ c.in-Some.ensures.steps c.requires

pub loop-letter-preserved : goal.loop-letter-preserved
loop-letter-preserved c = lettered_next c.loop-letter.invariant _ _ c.in-Some.ensures.steps c.put.ensures

pub returns : goal.returns
returns c = lettered_end c.loop-letter.invariant c.in-None.ensures.steps.0
