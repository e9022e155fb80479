-- `rewriter::turn` meets its contract. Assumes nothing.
use Rattle.form_items.specs.Walk.{tables_of}
use Rattle.rewriter.proofs.Walks.{leave_there, item_there, room_there, turned}
use Rattle.rewriter.proofs.turn.Goals as goal

pub depth_after-depth-requires : goal.depth_after-depth-requires
depth_after-depth-requires c = let a = c.args in let p = c.requires in (p.8, λ i. leave_there (tables_of a.source.now) a.source.now.texts.rows a.source.now.qrows c.look-item.ensures a.w.depth p.5 i)

pub write-at-requires : goal.write-at-requires
write-at-requires c = let a = c.args in let p = c.requires in let l = c.look-item.ensures in (p.0, p.4, item_there (tables_of a.source.now) a.source.now.texts.rows a.source.now.qrows l a.w.depth p.5, p.6, p.7, p.8, p.9, room_there (tables_of a.source.now) a.source.now.texts.rows a.source.now.qrows l a.defined.now.names a.defined.now.qnames a.out.now a.w.at _ p.10, p.11, p.12)

pub returns : goal.returns
returns c =
    let a = c.args in turned (tables_of a.source.now) a.source.now.texts.rows a.source.now.qrows c.look-item.ensures c.write-at.ensures c.depth_after-depth.ensures
