-- `form_names::put_qname` meets its contract. Assumes nothing.
use Rattle.form_names.proofs.Steps.{number_asks, number_past, qname_put}
use native.Mathlib.Omega.{arith}
use Rattle.form_names.proofs.put_qname.Goals as goal

pub put_name_number-x-requires : goal.put_name_number-x-requires
put_name_number-x-requires c = let a = c.args in let p = c.requires in number_asks a.slots.now a.base a.q.uri.0 p.2 c.name_number.ensures (omega (arith, p.3))

pub put_name_number-y-requires : goal.put_name_number-y-requires
put_name_number-y-requires c = let a = c.args in let p = c.requires in let near = p.3 in number_asks a.slots.now a.base a.q.prefix.0 p.2 c.name_number-2.ensures (let x = number_past _ {n = 1000000000001} c.put_name_number-x.ensures (omega arith) in omega arith)

pub put_name_number-requires : goal.put_name_number-requires
put_name_number-requires c =
    let a = c.args in let p = c.requires in let near = p.3 in number_asks a.slots.now a.base a.q.local.0 p.2 c.name_number-3.ensures (let x = number_past _ {n = 1000000000001} c.put_name_number-x.ensures (omega arith) in let y = number_past _ {n = 1000000000006} c.put_name_number-y.ensures x in omega arith)

pub returns : goal.returns
returns c =
    let a = c.args in qname_put a.slots.now a.base a.q c.put.ensures c.name_number.ensures c.put_name_number-x.ensures c.name_number-2.ensures c.put_name_number-y.ensures c.name_number-3.ensures c.put_name_number.ensures
