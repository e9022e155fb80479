-- `form_names::refer` meets its contract. Assumes nothing.
use Rattle.form_names.proofs.Steps.{refer_near, after_low, number_asks, refer_put}
use native.Mathlib.Omega.{arith}
use Rattle.form_names.proofs.refer.Goals as goal

pub overflow_add-p : goal.overflow_add-p
overflow_add-p c =
    let a = c.args in let p = c.requires in let x = c.define_qname-p.ensures in let n = refer_near a.texts.now.doc.now a.texts.now.names.now a.defined.now.names a.defined.now.qnames a.base a.q a.class.0 p.0.short p.7 x.0 in omega arith

pub qname_number-number-requires : goal.qname_number-number-requires
qname_number-number-requires c =
    let p = c.requires in let x = c.define_qname-p.ensures in let y = p.3 in let z = p.4 in (p.2, omega arith, after_low _ _ _ _ p.3 p.6 x.2)

pub put_qname_number-requires : goal.put_qname_number-requires
put_qname_number-requires c =
    let a = c.args in let p = c.requires in let x = c.define_qname-p.ensures in let n = refer_near a.texts.now.doc.now a.texts.now.names.now a.defined.now.names a.defined.now.qnames a.base a.q a.class.0 p.0.short p.7 x.0 in number_asks _ a.base a.class.0 (after_low _ _ _ _ p.3 p.6 x.2) c.qname_number-number.ensures (omega arith)

pub returns : goal.returns
returns c =
    let a = c.args in let x = c.define_qname-p.ensures in (refer_put a.texts.now.doc.now a.texts.now.names.now a.defined.now.names a.defined.now.qnames a.base a.q a.class.0 a.token x.0 x.2 c.put.ensures c.qname_number-number.ensures c.put_qname_number.ensures, x.1, x.2)
