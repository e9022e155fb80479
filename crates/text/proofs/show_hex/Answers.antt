-- `text::show_hex` meets its contract: the room decides. Assumes nothing.
use Rattle.text.proofs.Laid.{lays_short, lays_made, need_hex}
use Rattle.text.proofs.show_hex.Goals as goal

pub returns-then-buffer-need : goal.returns-then-buffer-need
returns-then-buffer-need c = lays_short _ _ (need_hex c.args.p.now) c.if-buffer-need.true

pub returns : goal.returns
returns c =
    lays_made _ _ (need_hex c.args.p.now) c.if-buffer-need.false
    c.hex_into.ensures
