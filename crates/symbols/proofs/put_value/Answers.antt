-- `symbols::put_value` meets its contract. Assumes nothing.
use Rattle.symbols.proofs.Going.{hashed_as, hashed_then}
use Rattle.symbols.proofs.Values.{value_put}
use Rattle.symbols.proofs.put_value.Goals as goal

pub returns : goal.returns
returns c = hashed_as (value_put c.args.token _ c.args.payload.now c.from.ensures) (hashed_then c.put_one-after.ensures c.put_bytes.ensures)
