-- `symbols::put_small` meets its contract: the text is what the small buffer holds. Assumes nothing.
use Rattle.symbols.proofs.Going.{hashed_as}
use Rattle.symbols.proofs.Texts.{small_part}
use Rattle.symbols.proofs.put_small.Goals as goal

pub put_units-requires : goal.put_units-requires
put_units-requires c = rw (small_part c.args.payload.now c.text.ensures c.load.ensures c.requires.0) c.requires.2

pub returns : goal.returns
returns c = hashed_as (small_part c.args.payload.now c.text.ensures c.load.ensures c.requires.0) c.put_units.ensures
