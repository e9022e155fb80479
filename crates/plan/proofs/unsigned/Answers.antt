-- `plan::unsigned` meets its contract. Assumes nothing.
use Rattle.plan.proofs.Plans.{unsigned_is}
use Rattle.plan.proofs.unsigned.Goals as goal

pub returns : goal.returns
returns c = let l = c.word_of.ensures in unsigned_is _ _ c.of_word-size.ensures.1 c.requires l.0 l.1 c.of_word-size.ensures.0
