-- `base64_text::put_three` meets its contract. The four letters are the text of the three bytes. Assumes nothing.
use Rattle.base64_text.proofs.Base64.{text_three}
use Rattle.sequences.proofs.Store.{text_is}
use lib.ListN.{length}
use lib.Seq.{length-sets}
use mathlib.Core.Path.{◌∙◌, ap}
use Rattle.base64_text.proofs.put_three.Goals as goal

pub shape_of-out : goal.shape_of-out
shape_of-out c = ap length c.put_four.ensures ∙ simp length-sets

pub returns : goal.returns
returns c =
    text_is _ _ c.put_four.ensures
    (text_three _ _ _ c.letter_of-w.ensures c.letter_of-x.ensures
    c.letter_of-y.ensures c.letter_of-z.ensures)
