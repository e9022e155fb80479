-- `form_items::item_by` meets its contract. Assumes nothing.
use Rattle.form_items.proofs.Classed.{refers, bytes, texts}
use Rattle.machine.specs.Machine.{event}
use borrow.Author.Tests.{eq-eqb, ne_eqb}
use Rattle.form_items.proofs.item_by.Goals as goal

pub returns-in-Unknown : goal.returns-in-Unknown
returns-in-Unknown c = rw c.in-Unknown.is

pub returns-then-token-eq-XSD_QNAME : goal.returns-then-token-eq-XSD_QNAME
returns-then-token-eq-XSD_QNAME c = rw (c.in-Value.is, eq-eqb _ _ c.if-token-eq-XSD_QNAME.true)

pub returns-else-token-eq-XSD_QNAME : goal.returns-else-token-eq-XSD_QNAME
returns-else-token-eq-XSD_QNAME c = rw (c.in-Value.is, ne_eqb _ _ c.if-token-eq-XSD_QNAME.false)

pub returns-in-LaterValue : goal.returns-in-LaterValue
returns-in-LaterValue c = rw c.in-LaterValue.is

pub returns-in-Element : goal.returns-in-Element
returns-in-Element c = refers c.args.class _ c.in-Element.in-Element-own.keys4

pub returns-in-Pi : goal.returns-in-Pi
returns-in-Pi c = rw c.in-Pi.is

pub returns-in-Nest : goal.returns-in-Nest
returns-in-Nest c = rw c.in-Nest.is

pub returns-in-EndNest : goal.returns-in-EndNest
returns-in-EndNest c = rw c.in-EndNest.is

pub returns-in-EndElement : goal.returns-in-EndElement
returns-in-EndElement c = bytes c.args.class (event c.args.token 0 c.args.a c.args.b) c.in-EndElement.in-EndElement-own.keys8

pub returns-in-XmlDecl : goal.returns-in-XmlDecl
returns-in-XmlDecl c = texts c.args.class _ c.in-XmlDecl.in-XmlDecl-own.keys9
