-- `base64_text::put_last` meets its contract. By cases on what is left: nothing, one byte, two bytes. Assumes nothing.
use Rattle.base64_text.proofs.Base64.{text_none, none_left, one_left, two_left}
use Rattle.base64_text.specs.Base64.{base64}
use Rattle.sequences.proofs.Store.{text_is}
use lib.ListN.{length}
use lib.Seq.{length-sets}
use mathlib.Core.Path.{◌∙◌, ap}
use native.Mathlib.Omega.{arith}
use Rattle.base64_text.proofs.put_last.Goals as goal

pub returns-then-i-p : goal.returns-then-i-p
returns-then-i-p c = rw (none_left _ _ c.if-i-p.true, text_none)

pub put_one-requires : goal.put_one-requires
put_one-requires c = (c.requires.0, omega arith)

pub shape_of-out-then-i-p-2 : goal.shape_of-out-then-i-p-2
shape_of-out-then-i-p-2 c = ap length c.put_one.ensures ∙ simp length-sets

pub returns-then-i-p-2 : goal.returns-then-i-p-2
returns-then-i-p-2 c =
    text_is _ _ c.put_one.ensures
    (ap base64 (one_left _ _ c.if-i-p-2.true))

pub put_pair-requires : goal.put_pair-requires
put_pair-requires c = (c.requires.0, omega arith)

pub shape_of-out : goal.shape_of-out
shape_of-out c = ap length c.put_pair.ensures ∙ simp length-sets

pub returns : goal.returns
returns c =
    let a = c.args in
    text_is _ _ c.put_pair.ensures (ap base64 (two_left a.p.now a.i (omega arith)))
