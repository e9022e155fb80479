-- A number in chunks without its last digit. Assumes nothing.
use Rattle.chunks.proofs.Chunked.{move, shorten}
use Rattle.numeral.proofs.ChunksDecimal.tenth.Goals as goal

pub returns-then-self-eq1 : goal.returns-then-self-eq1
returns-then-self-eq1 c = move c.args.self c.requires c.if-self-eq1.true

pub returns-else-self-eq1 : goal.returns-else-self-eq1
returns-else-self-eq1 c = shorten c.args.self c.requires c.if-self-eq1.false
