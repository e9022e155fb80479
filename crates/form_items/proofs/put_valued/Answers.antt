-- `form_items::put_valued` meets its contract. Assumes nothing.
use Rattle.form_items.proofs.Bytes.{value_asks, value_put}
use Rattle.form_items.proofs.put_valued.Goals as goal

pub put_value-requires : goal.put_value-requires
put_value-requires c = let a = c.args in let p = c.requires in value_asks a.source.now.texts.doc.now a.token a.place a.size c.shape_at-shape.ensures a.out.now _ a.at p.1 p.2 p.3 c.put.ensures p.4

pub returns : goal.returns
returns c = let a = c.args in value_put a.source.now.texts.doc.now a.token a.place a.size c.shape_at-shape.ensures c.put.ensures c.put_value.ensures
