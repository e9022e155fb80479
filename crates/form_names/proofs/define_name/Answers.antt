-- `form_names::define_name` meets its contract. Assumes nothing.
use Rattle.form_names.proofs.Steps.{none_empty, none_known, text_due, text_asks}
use Rattle.form_names.proofs.define_name.Goals as goal
use Rattle.form_names.proofs.define_name.Goals.{then-class-eq0-via-then-class-eq0, then-class-eq0-via-else-class-eq0+then-slots-base-ne0}

pub returns-then-class-eq0 : goal.returns-then-class-eq0
returns-then-class-eq0 c =
    let a = c.args in
    elim c.then-class-eq0.branch [
      | then-class-eq0-via-then-class-eq0 w ↦ none_empty a.texts.now.doc.now a.texts.now.names.now a.slots.now a.base a.class.0 w.if-class-eq0.true
      | then-class-eq0-via-else-class-eq0+then-slots-base-ne0 w ↦ none_known a.texts.now.doc.now a.texts.now.names.now a.slots.now a.base a.class.0 w.if-slots-base-ne0.true
    ]

pub put_text-requires : goal.put_text-requires
put_text-requires c =
    let a = c.args in let p = c.requires in text_asks a.texts.now.doc.now a.texts.now.names.now a.slots.now a.base a.class.0 c.if-class-eq0.false c.if-slots-base-ne0.false c.cell.ensures.0 c.cell-2.ensures.0 a.out.now _ p.0 p.1 p.4 c.put.ensures p.5

pub returns : goal.returns
returns c =
    let a = c.args in text_due a.texts.now.doc.now a.texts.now.names.now a.slots.now a.base a.class.0 c.if-class-eq0.false c.if-slots-base-ne0.false c.cell.ensures.0 c.cell-2.ensures.0 c.put.ensures c.put_text.ensures c.mark_name.ensures
