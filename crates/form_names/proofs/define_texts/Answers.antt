-- `form_names::define_texts` meets its contract. Assumes nothing.
use Rattle.form_names.proofs.Steps.{uri_asks, prefix_asks, local_asks, texts_put}
use Rattle.form_names.proofs.define_texts.Goals as goal

pub define_name-x-requires : goal.define_name-x-requires
define_name-x-requires c = let a = c.args in let p = c.requires in uri_asks a.texts.now.doc.now a.texts.now.names.now a.texts.now.rows a.base a.q p.0 p.1 p.2 a.slots.now a.out.now a.at p.3 p.4 p.5

pub define_name-y-requires : goal.define_name-y-requires
define_name-y-requires c = let a = c.args in let p = c.requires in let x = c.define_name-x.ensures in prefix_asks a.texts.now.doc.now a.texts.now.names.now a.texts.now.rows a.base a.q p.0 p.1 p.2 a.slots.now a.out.now a.at _ _ _ p.3 p.4 p.5 x.0 x.1

pub define_name-requires : goal.define_name-requires
define_name-requires c =
    let a = c.args in let p = c.requires in let x = c.define_name-x.ensures in let y = c.define_name-y.ensures in local_asks a.texts.now.doc.now a.texts.now.names.now a.texts.now.rows a.base a.q p.0 p.1 p.2 a.slots.now a.out.now a.at _ _ _ _ _ _ p.3 p.4 p.5 x.0 x.1 y.0 y.1

pub returns : goal.returns
returns c =
    let a = c.args in let p = c.requires in let x = c.define_name-x.ensures in let y = c.define_name-y.ensures in let z = c.define_name.ensures in texts_put a.texts.now.doc.now a.texts.now.names.now a.texts.now.rows a.base a.q p.0 p.1 p.2 a.slots.now a.out.now a.at _ _ _ _ _ _ _ _ _ x.0 x.1 y.0 y.1 z.0 z.1
