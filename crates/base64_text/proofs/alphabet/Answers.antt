-- `base64_text::alphabet` meets its contract. The table is the alphabet: one equation of lists, checked by computing. Assumes nothing.
use Rattle.base64_text.proofs.Base64.{alphabet_is}
use Rattle.base64_text.specs.Base64.{letter}
use mathlib.Core.Path.{refl}
use Rattle.base64_text.proofs.alphabet.Goals as goal

pub returns : goal.returns
unfolding letter
returns c = alphabet_is _ refl
