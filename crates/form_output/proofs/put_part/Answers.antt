-- `form_output::put_part` meets its contract: an output that ends at or before the place stays as it is. Assumes nothing.
use Rattle.form_output.proofs.Laws.{room_for}
use Rattle.form_output.proofs.Steps.{part_copied, part_laid, part_measured}
use Rattle.form_output.proofs.put_part.Goals as goal

pub returns : goal.returns
returns c =
    let p = c.requires in
    part_laid _ _ _ _ _ _ p.0 (part_copied _ _ _ _ _ _ p.0 (room_for _ p.3 c.if-out-at.false) c.copy_from_slice.ensures.after)

pub returns-then-out-at : goal.returns-then-out-at
returns-then-out-at c = part_measured _ _ _ _ _ c.requires.0 c.if-out-at.true
