-- `base64_text::put_one` meets its contract. The two letters and the padding are the text of the byte. Assumes nothing.
use Rattle.base64_text.proofs.Base64.{text_one}
use Rattle.sequences.proofs.Store.{text_is}
use lib.ListN.{length}
use lib.Seq.{length-sets}
use mathlib.Core.Path.{◌∙◌, ap}
use Rattle.base64_text.proofs.put_one.Goals as goal

pub shape_of-out : goal.shape_of-out
shape_of-out c = ap length c.put_four.ensures ∙ simp length-sets

pub returns : goal.returns
returns c =
    text_is _ _ c.put_four.ensures (text_one _ c.letter_of-w.ensures c.letter_of-x.ensures)
