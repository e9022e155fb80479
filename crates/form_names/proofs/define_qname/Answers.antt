-- `form_names::define_qname` meets its contract. Assumes nothing.
use Rattle.form_names.proofs.Steps.{qname_known, texts_fit, numbers_asks, qname_new}
use Rattle.form_slots.proofs.Slots.{low_more}
use native.Mathlib.Omega.{arith}
use Rattle.form_names.proofs.define_qname.Goals as goal

pub returns-then-defined-base-ne0 : goal.returns-then-defined-base-ne0
returns-then-defined-base-ne0 c = let a = c.args in qname_known a.texts.now.doc.now a.texts.now.names.now a.defined.now.names a.defined.now.qnames a.base a.q a.class.0 c.if-defined-base-ne0.true

pub define_texts-p-requires : goal.define_texts-p-requires
define_texts-p-requires c = let a = c.args in let p = c.requires in (p.0, p.1, p.4, p.5, p.7, texts_fit a.texts.now.doc.now a.texts.now.names.now a.defined.now.names a.defined.now.qnames a.base a.q a.class.0 p.2 c.if-defined-base-ne0.false a.out.now a.at p.8)

pub mark_qname-requires : goal.mark_qname-requires
mark_qname-requires c = let p = c.requires in (p.3, p.4, low_more (omega arith) p.6)

pub put_qname-requires : goal.put_qname-requires
put_qname-requires c =
    let a = c.args in let p = c.requires in let x = c.define_texts-p.ensures in numbers_asks a.texts.now.doc.now a.texts.now.names.now a.defined.now.names a.texts.now.rows a.base a.q p.0 p.1 p.4 p.5 p.7 x.0 x.1

pub returns : goal.returns
returns c =
    let a = c.args in let p = c.requires in let x = c.define_texts-p.ensures in qname_new a.texts.now.doc.now a.texts.now.names.now a.defined.now.names a.defined.now.qnames a.base a.q a.class.0 p.2 c.if-defined-base-ne0.false x.0 x.1 c.mark_qname.ensures c.put_qname.ensures
