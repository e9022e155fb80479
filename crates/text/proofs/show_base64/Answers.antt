-- `text::show_base64` meets its contract: the room decides. Assumes nothing.
use Rattle.text.proofs.Laid.{lays_short, lays_made, need_base64}
use Rattle.text.proofs.show_base64.Goals as goal

pub returns-then-buffer-size : goal.returns-then-buffer-size
returns-then-buffer-size c = lays_short _ _ (need_base64 c.args.p.now) c.if-buffer-size.true

pub returns : goal.returns
returns c =
    lays_made _ _ (need_base64 c.args.p.now) c.if-buffer-size.false
    c.base64_into.ensures
