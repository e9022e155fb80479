-- Serves the code. What a row of events asks of the walk, by its token's class.
use Rattle.std.specs.Prelude.{cond, eqb}
use Rattle.token.specs.Tokens.{class_of, XSD_QNAME}
use Rattle.token.specs.declared.Class.{Class}
use Rattle.token.specs.declared.Class.TheVariants as class
use Rattle.machine.specs.Machine.{EventRow}
use Rattle.form_items.specs.declared.Item.{Item}
use Rattle.form_items.specs.declared.Item.TheVariants.{Byte, Texted, Pi, Refer, Valued, Nest, Leave}

abbrev pub item_by : Class → EventRow → Item
item_by class.Unknown e = Byte e.a
item_by class.Value e = cond (eqb e.token XSD_QNAME) (Refer e.token e.a) (Valued e.token e.a e.b)
item_by class.LaterValue e = Valued e.token e.a e.b
item_by class.XmlDecl e = Texted e.token e.a e.b
item_by class.Encoding e = Texted e.token e.a e.b
item_by class.DocType e = Texted e.token e.a e.b
item_by class.System e = Texted e.token e.a e.b
item_by class.Public e = Texted e.token e.a e.b
item_by class.Subset e = Texted e.token e.a e.b
item_by class.Element e = Refer e.token e.a
item_by class.EndElement e = Byte e.token
item_by class.Attribute e = Refer e.token e.a
item_by class.EndAttributes e = Byte e.token
item_by class.Pi e = Pi e.a e.b
item_by class.Comment e = Texted e.token e.a e.b
item_by class.Cdata e = Texted e.token e.a e.b
item_by class.CdataEnd e = Byte e.token
item_by class.NameDef e = Byte e.token
item_by class.QnameDef e = Byte e.token
item_by class.Nest e = Nest e.a
item_by class.EndNest e = Leave
item_by class.Extension e = Byte e.token
item_by class.Flush e = Byte e.token

unfoldable pub item_of : EventRow → Item
item_of e = item_by (class_of e.token) e
