-- `hexadecimal::put_byte` meets its contract. The two digits are the text of the byte. Assumes nothing.
use Rattle.hexadecimal.proofs.Hex.{text_byte}
use Rattle.sequences.proofs.Store.{text_is}
use lib.ListN.{length}
use lib.Seq.{length-sets}
use mathlib.Core.Path.{◌∙◌, ap}
use Rattle.hexadecimal.proofs.put_byte.Goals as goal

pub shape_of-out : goal.shape_of-out
shape_of-out c = ap length c.put_two.ensures ∙ simp length-sets

pub returns : goal.returns
returns c =
    text_is _ _ c.put_two.ensures (text_byte _ c.hex_digit-w.ensures c.hex_digit-x.ensures)
