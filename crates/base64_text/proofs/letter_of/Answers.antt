-- `base64_text::letter_of` meets its contract. The entry of a table of the alphabet. Assumes nothing.
use Rattle.base64_text.specs.Letters.{Alphabet}
use Rattle.base64_text.proofs.letter_of.Goals as goal

pub returns : goal.returns
unfolding Alphabet
returns c = rw c.from.ensures (c.requires.0 c.args.v c.requires.1)
