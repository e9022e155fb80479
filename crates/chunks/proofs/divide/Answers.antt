-- `chunks::divide` meets its contract. Assumes nothing.
use Rattle.chunks.proofs.Division.{divides}
use Rattle.chunks.proofs.divide.Goals as goal

pub returns : goal.returns
returns c = divides c.args.l c.requires
