-- `symbols::put_one` meets its contract. Assumes nothing.
use Rattle.symbols.proofs.Going.{hashed_one}
use Rattle.symbols.proofs.put_one.Goals as goal

pub returns : goal.returns
returns c = hashed_one _ c.args.p _ _ c.mix.ensures
