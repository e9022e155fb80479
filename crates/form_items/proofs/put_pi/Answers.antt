-- `form_items::put_pi` meets its contract. Assumes nothing.
use Rattle.form_items.proofs.Bytes.{pi_asks, pi_low, pi_near, pi_number, pi_text, pi_put, not_refused}
use native.Mathlib.Omega.{arith}
use Rattle.form_items.proofs.put_pi.Goals as goal

pub define_name-p-requires : goal.define_name-p-requires
define_name-p-requires c = let a = c.args in let p = c.requires in pi_asks a.texts.now.doc.now a.texts.now.names.now a.slots.now a.texts.now.rows a.base a.class.0 a.start p.0 p.3 a.out.now a.at p.1 p.2 p.4 p.6

pub overflow_add-p : goal.overflow_add-p
overflow_add-p c =
    let a = c.args in let p = c.requires in let n = pi_near a.texts.now.doc.now a.texts.now.names.now a.slots.now a.texts.now.rows a.base a.class.0 a.start p.0 p.3 c.define_name-p.ensures.0 p.4 in omega arith

pub name_number-requires : goal.name_number-requires
name_number-requires c =
    let a = c.args in let p = c.requires in let x = p.1 in let y = p.2 in let z = p.0.few in (omega arith, pi_low a.texts.now.doc.now a.texts.now.names.now a.slots.now a.texts.now.rows a.base a.class.0 a.start p.0 p.3 p.1 c.define_name-p.ensures.1)

pub put_name_number-x-requires : goal.put_name_number-x-requires
put_name_number-x-requires c =
    let a = c.args in let p = c.requires in pi_number a.texts.now.doc.now a.texts.now.names.now a.slots.now a.texts.now.rows a.base a.class.0 a.start p.0 p.3 c.define_name-p.ensures.0 p.4 p.1 c.define_name-p.ensures.1 c.name_number.ensures

pub put_text-requires : goal.put_text-requires
put_text-requires c =
    let a = c.args in let p = c.requires in let d = c.define_name-p.ensures in pi_text a.texts.now.doc.now a.texts.now.names.now a.slots.now a.texts.now.rows a.base a.class.0 a.start p.0 p.3 d.0 p.4 d.1 c.name_number.ensures c.put.ensures c.put_name_number-x.ensures c.text_at.ensures.0 c.in-Ok.is c.text_at.ensures.1 p.6

pub returns-in-Ok : goal.returns-in-Ok
returns-in-Ok c =
    let a = c.args in let p = c.requires in let d = c.define_name-p.ensures in pi_put a.texts.now.doc.now a.texts.now.names.now a.slots.now a.texts.now.rows a.base a.class.0 a.start p.0 p.3 d.0 p.4 d.1 c.name_number.ensures c.put.ensures c.put_name_number-x.ensures c.text_at.ensures.0 c.in-Ok.is c.put_text.ensures

pub returns-in-Err : goal.returns-in-Err
returns-in-Err c =
    let a = c.args in let p = c.requires in absurd (not_refused a.texts.now.doc.now a.start p.5 c.text_at.ensures.0 c.in-Err.is)
