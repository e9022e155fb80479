-- `moment::put_field` meets its contract: the letter, and the digits before it. Assumes nothing.
use Rattle.moment.proofs.Puts.{put_both}
use Rattle.moment.proofs.put_field.Goals as goal

pub returns : goal.returns
returns c = put_both _ _ _ c.put.ensures c.put_last.ensures.put
