-- `name_classes::same_row` meets its contract: equal texts have equal hashes. Assumes nothing.
use Rattle.classes.specs.Search.{row_text_at}
use Rattle.name_classes.proofs.Texts.{texts_differ}
use Rattle.name_classes.proofs.same_row.Goals as goal

pub returns-then-hashes-j : goal.returns-then-hashes-j
returns-then-hashes-j c =
    let text = row_text_at c.args.doc.now c.args.names.now in
    texts_differ (text c.args.j) (text c.args.r) _ _ (c.requires.2 _ c.requires.1) c.requires.3 c.if-hashes-j.true
