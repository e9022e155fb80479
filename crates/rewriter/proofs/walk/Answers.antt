use Rattle.form_items.specs.Walk.{tables_of}
use Rattle.form_output.proofs.Laws.{put_length}
use Rattle.rewriter.proofs.Walks.{zeros, begins, asks, goes_on, whole}
use mathlib.Core.Path.{◌∙◌}
use native.Mathlib.Omega.{arith}
use Rattle.rewriter.proofs.walk.Goals as goal

pub overflow_cast-version : goal.overflow_cast-version
overflow_cast-version c = let p = c.requires in let v = p.2 in omega arith

pub loop-i-init : goal.loop-i-init
loop-i-init c = let a = c.args in let p = c.requires in begins (tables_of a.source.now) a.events.now a.source.now.texts.rows a.source.now.qrows a.count p.1 a.version _ _ c.put_header-at.ensures p.3 (zeros (tables_of a.source.now) a.events.now a.source.now.texts.rows a.source.now.qrows a.count) (zeros (tables_of a.source.now) a.events.now a.source.now.texts.rows a.source.now.qrows a.count)

pub turn-w-requires : goal.turn-w-requires
turn-w-requires c =
    let a = c.args in let p = c.requires in let q = asks (tables_of a.source.now) a.events.now a.source.now.texts.rows a.source.now.qrows a.count p.1 c.loop-i.invariant c.loop-i-test.true in (p.0, q.0, q.1, q.2, q.3, q.4, q.5, q.6, q.7, q.8, q.9, q.10, q.11)

pub loop-i-preserved : goal.loop-i-preserved
loop-i-preserved c =
    let a = c.args in let p = c.requires in goes_on (tables_of a.source.now) a.events.now a.source.now.texts.rows a.source.now.qrows a.count p.1 c.loop-i.invariant c.loop-i-test.true c.turn-w.ensures

pub shape_of-out : goal.shape_of-out
shape_of-out c = c.loop-i.invariant.long ∙ put_length c.put_header-at.ensures

pub returns : goal.returns
returns c =
    let a = c.args in let p = c.requires in whole (tables_of a.source.now) a.events.now a.source.now.texts.rows a.source.now.qrows a.count p.1 a.version c.put_header-at.ensures c.loop-i.invariant c.loop-i-test.false
