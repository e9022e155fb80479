-- `base64_text::put_pair` meets its contract. The three letters and the padding are the text of the two bytes. Assumes nothing.
use Rattle.base64_text.proofs.Base64.{text_two}
use Rattle.sequences.proofs.Store.{text_is}
use lib.ListN.{length}
use lib.Seq.{length-sets}
use mathlib.Core.Path.{◌∙◌, ap}
use Rattle.base64_text.proofs.put_pair.Goals as goal

pub shape_of-out : goal.shape_of-out
shape_of-out c = ap length c.put_four.ensures ∙ simp length-sets

pub returns : goal.returns
returns c =
    text_is _ _ c.put_four.ensures
    (text_two _ _ c.letter_of-w.ensures c.letter_of-x.ensures c.letter_of-y.ensures)
