-- `text::show_number` meets its contract: what is rendered is laid. Assumes nothing.
use Rattle.text.proofs.Laid.{lays_length}
use Rattle.text.proofs.show_number.Goals as goal

pub shape_of-buffer : goal.shape_of-buffer
shape_of-buffer c = lays_length (c.show_small.ensures.each _ c.render.ensures)

pub returns : goal.returns
returns c = c.show_small.ensures.each _ c.render.ensures
