-- `form_items::write` meets its contract. Assumes nothing.
use Rattle.form_items.proofs.Writes.{byte_asks, text_asks, target_asks, pi_asks, row_asks, qclass_asks, row_from, refer_asks, wrote_refer, value_asks, nest_asks, wrote_byte, wrote_text, wrote_pi, wrote_value, wrote_nest, wrote_leave}
use Rattle.form_items.specs.Walk.{tables_of}
use mathlib.Core.Path.{refl}
use native.Mathlib.Omega.{arith}
use Rattle.form_items.proofs.write.Goals as goal

pub overflow_cast-value : goal.overflow_cast-value
overflow_cast-value c = let a = c.args in let p = c.requires in let h = byte_asks (tables_of a.source.now) a.source.now.texts.rows a.source.now.qrows a.defined.now.names a.defined.now.qnames a.out.now a.w a.item p.1 p.2 p.3 p.4 p.5 p.6 p.7 c.in-Byte.is in omega arith

pub put_texted-requires : goal.put_texted-requires
put_texted-requires c = let a = c.args in let p = c.requires in text_asks (tables_of a.source.now) a.source.now.texts.rows a.source.now.qrows a.defined.now.names a.defined.now.qnames a.out.now a.w a.item p.1 p.2 p.3 p.4 p.5 p.6 p.7 c.in-Texted.is

pub class_at-requires : goal.class_at-requires
class_at-requires c = let a = c.args in let p = c.requires in target_asks (tables_of a.source.now) a.source.now.texts.rows a.source.now.qrows a.defined.now.names a.defined.now.qnames a.out.now a.w a.item p.1 p.2 p.3 p.4 p.5 p.6 p.7 c.in-Pi.is

pub put_pi-requires : goal.put_pi-requires
put_pi-requires c = let a = c.args in let p = c.requires in pi_asks (tables_of a.source.now) a.source.now.texts.rows a.source.now.qrows a.defined.now.names a.defined.now.qnames a.out.now a.w a.item p.1 p.2 p.3 p.4 p.5 p.6 p.7 c.in-Pi.is c.class_at.ensures refl

pub overflow_sub-row : goal.overflow_sub-row
overflow_sub-row c = let a = c.args in let p = c.requires in let h = row_from (tables_of a.source.now) a.source.now.texts.rows a.source.now.qrows a.defined.now.names a.defined.now.qnames a.out.now a.w a.item p.1 p.2 p.3 p.4 p.5 p.6 p.7 c.in-Refer.is in omega arith

pub parts_at-q-requires : goal.parts_at-q-requires
parts_at-q-requires c = let a = c.args in let p = c.requires in row_asks (tables_of a.source.now) a.source.now.texts.rows a.source.now.qrows a.defined.now.names a.defined.now.qnames a.out.now a.w a.item p.1 p.2 p.3 p.4 p.5 p.6 p.7 c.in-Refer.is

pub class_at-requires-in-Refer : goal.class_at-requires-in-Refer
class_at-requires-in-Refer c = let a = c.args in let p = c.requires in qclass_asks (tables_of a.source.now) a.source.now.texts.rows a.source.now.qrows a.defined.now.names a.defined.now.qnames a.out.now a.w a.item p.1 p.2 p.3 p.4 p.5 p.6 p.7 c.in-Refer.is

pub refer-requires : goal.refer-requires
refer-requires c =
    let a = c.args in let p = c.requires in refer_asks (tables_of a.source.now) a.source.now.texts.rows a.source.now.qrows a.defined.now.names a.defined.now.qnames a.out.now a.w a.item p.1 p.2 p.3 p.4 p.5 p.6 p.7 c.in-Refer.is c.parts_at-q.ensures c.class_at-in-Refer.ensures refl

pub put_valued-requires : goal.put_valued-requires
put_valued-requires c = let a = c.args in let p = c.requires in let v = value_asks (tables_of a.source.now) a.source.now.texts.rows a.source.now.qrows a.defined.now.names a.defined.now.qnames a.out.now a.w a.item p.1 p.2 p.3 p.4 p.5 p.6 p.7 c.in-Valued.is in (p.0, v.0, v.1, v.2, v.3)

pub overflow_add-base : goal.overflow_add-base
overflow_add-base c = let a = c.args in let p = c.requires in let v = nest_asks (tables_of a.source.now) a.source.now.texts.rows a.source.now.qrows a.defined.now.names a.defined.now.qnames a.out.now a.w a.item p.1 p.2 p.3 p.4 p.5 p.6 p.7 p.8 p.9 c.in-Nest.is refl in let y = v.2 in omega arith

pub overflow_cast-version : goal.overflow_cast-version
overflow_cast-version c = let a = c.args in let p = c.requires in let v = nest_asks (tables_of a.source.now) a.source.now.texts.rows a.source.now.qrows a.defined.now.names a.defined.now.qnames a.out.now a.w a.item p.1 p.2 p.3 p.4 p.5 p.6 p.7 p.8 p.9 c.in-Nest.is refl in let y = v.0 in omega arith

pub put_nest-requires : goal.put_nest-requires
put_nest-requires c = let a = c.args in let p = c.requires in let v = nest_asks (tables_of a.source.now) a.source.now.texts.rows a.source.now.qrows a.defined.now.names a.defined.now.qnames a.out.now a.w a.item p.1 p.2 p.3 p.4 p.5 p.6 p.7 p.8 p.9 c.in-Nest.is refl in (v.1, v.2, v.3, v.4, v.5, v.6)

pub returns-in-Byte : goal.returns-in-Byte
returns-in-Byte c = let a = c.args in let p = c.requires in wrote_byte (tables_of a.source.now) a.source.now.texts.rows a.source.now.qrows a.defined.now.names a.defined.now.qnames a.out.now a.w a.item p.1 p.2 p.3 p.4 p.5 p.6 p.7 c.in-Byte.is c.put_byte.ensures

pub returns-in-Texted : goal.returns-in-Texted
returns-in-Texted c = let a = c.args in let p = c.requires in wrote_text (tables_of a.source.now) a.source.now.texts.rows a.source.now.qrows a.defined.now.names a.defined.now.qnames a.out.now a.w a.item p.1 p.2 p.3 p.4 p.5 p.6 p.7 c.in-Texted.is c.put_texted.ensures

pub returns-in-Pi : goal.returns-in-Pi
returns-in-Pi c =
    let a = c.args in let p = c.requires in let x = c.put_pi.ensures in wrote_pi (tables_of a.source.now) a.source.now.texts.rows a.source.now.qrows a.defined.now.names a.defined.now.qnames a.out.now a.w a.item p.1 p.2 p.3 p.4 p.5 p.6 p.7 c.in-Pi.is c.class_at.ensures refl x.0 x.1

pub returns-in-Refer : goal.returns-in-Refer
returns-in-Refer c =
    let a = c.args in let p = c.requires in let x = c.refer.ensures in wrote_refer (tables_of a.source.now) a.source.now.texts.rows a.source.now.qrows a.defined.now.names a.defined.now.qnames a.out.now a.w a.item p.1 p.2 p.3 p.4 p.5 p.6 p.7 c.in-Refer.is c.parts_at-q.ensures c.class_at-in-Refer.ensures refl x.0 x.1 x.2

pub returns-in-Valued : goal.returns-in-Valued
returns-in-Valued c = let a = c.args in let p = c.requires in wrote_value (tables_of a.source.now) a.source.now.texts.rows a.source.now.qrows a.defined.now.names a.defined.now.qnames a.out.now a.w a.item p.1 p.2 p.3 p.4 p.5 p.6 p.7 c.in-Valued.is c.put_valued.ensures

pub returns-in-Nest : goal.returns-in-Nest
returns-in-Nest c =
    let a = c.args in let p = c.requires in let x = c.put_nest.ensures in wrote_nest (tables_of a.source.now) a.source.now.texts.rows a.source.now.qrows a.defined.now.names a.defined.now.qnames a.out.now a.w a.item p.1 p.2 p.3 p.4 p.5 p.6 p.7 c.in-Nest.is refl x.0 x.1 x.2

pub returns-in-Leave : goal.returns-in-Leave
returns-in-Leave c = let a = c.args in let p = c.requires in wrote_leave (tables_of a.source.now) a.source.now.texts.rows a.source.now.qrows a.defined.now.names a.defined.now.qnames a.out.now a.w a.item p.1 p.2 p.3 p.4 p.5 p.6 p.7 c.in-Leave.is c.put_byte-in-Leave.ensures
