-- `instant::milliseconds` meets its contract: a quarter of the number, below a day. Assumes nothing.
use Rattle.instant.proofs.Fields.{stamp_field}
use Rattle.instant.proofs.Ways.{eight_bytes, milliseconds_in, milliseconds_past}
use Rattle.instant.proofs.milliseconds.Goals as goal

pub word_of-ticks-requires : goal.word_of-ticks-requires
word_of-ticks-requires c = eight_bytes c.args.p.now (stamp_field _ c.requires)

pub returns-then-ticks-ge-MILLISECONDS_OF_DAY : goal.returns-then-ticks-ge-MILLISECONDS_OF_DAY
returns-then-ticks-ge-MILLISECONDS_OF_DAY c = milliseconds_past _ c.word_of-ticks.ensures.0 c.if-ticks-ge-MILLISECONDS_OF_DAY.true

pub returns : goal.returns
returns c = milliseconds_in _ c.word_of-ticks.ensures.0 c.if-ticks-ge-MILLISECONDS_OF_DAY.false
