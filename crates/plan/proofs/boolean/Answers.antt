-- `plan::boolean` meets its contract: "true" where the byte is not 0. Assumes nothing.
use Rattle.plan.proofs.Plans.{boolean_is}
use Rattle.plan.proofs.boolean.Goals as goal

pub returns : goal.returns
returns c = boolean_is _
