use Prim.Native.Nat.{ℕ}
use Rattle.std.proofs.Common.{rules}
use Rattle.classes.proofs.Trees.{tree_shaped, spot_holds}
use Rattle.classes.specs.Search.{row_text_at}
use Rattle.machine.proofs.Tables.{names_inside}
use Rattle.name_classes.proofs.Names.{table_to, made_none, made_next, made_all}
use Rattle.name_classes.proofs.Texts.{texts_told}
use Rattle.name_classes.specs.Texts.{text_hash}
use lib.ListN.{length-replicate, get_or-replicate}
use mathlib.Core.Path.{ap, ◌∙◌}
use native.Mathlib.Omega.{arith}
use Rattle.name_classes.proofs.name_classes.Goals as goal

pub loop-r-init : goal.loop-r-init
loop-r-init c =
    made_none _ _ _ _ _ _ c.requires.3 (length-replicate {A = ℕ} 4087 1024) (length-replicate {A = ℕ} 1024 1)
    (λ p h. get_or-replicate 4087 p 1024 0 h)

pub row_text-requires : goal.row_text-requires
row_text-requires c =
    let p = c.requires in
    (names_inside p.0 p.1 p.2 p.4, c.loop-r-test.true)

pub find-p-requires : goal.find-p-requires
find-p-requires c =
    let p = c.requires in
    let n = table_to (names_inside p.0 p.1 p.2 p.4) c.loop-r-test.true in
    let f = c.loop-r.invariant.hashed.are in
    let e = c.hash_of-h.ensures ∙ ap text_hash c.row_text.ensures in
    (omega (arith, c.loop-r-test.true, p.0), tree_shaped c.loop-r.invariant.treed, λ j l. search rules)

pub offset_bounds-tree-p : goal.offset_bounds-tree-p
offset_bounds-tree-p c =
    let text = row_text_at c.args.doc.now c.args.names.now in
    let e = c.hash_of-h.ensures ∙ ap text_hash c.row_text.ensures in
    let s = c.find-p.ensures text_hash text c.loop-r.invariant.treed e (λ j b l x. texts_told (text j) (text c.loop-r.r-counter) b (search rules)) in
    omega (arith, s.inside, c.loop-r-test.true, c.requires.0)

pub bounds-tree-p : goal.bounds-tree-p
bounds-tree-p c =
    let text = row_text_at c.args.doc.now c.args.names.now in
    let e = c.hash_of-h.ensures ∙ ap text_hash c.row_text.ensures in
    let s = c.find-p.ensures text_hash text c.loop-r.invariant.treed e (λ j b l x. texts_told (text j) (text c.loop-r.r-counter) b (search rules)) in
    omega (arith, s.inside, c.loop-r-test.true, c.requires.0)

pub put_row-requires : goal.put_row-requires
put_row-requires c =
    let text = row_text_at c.args.doc.now c.args.names.now in
    let e = c.hash_of-h.ensures ∙ ap text_hash c.row_text.ensures in
    let t = c.loop-r.invariant.treed in
    let s = c.find-p.ensures text_hash text t e (λ j b l x. texts_told (text j) (text c.loop-r.r-counter) b (search rules)) in
    spot_holds t s (omega (arith, c.loop-r-test.true, c.requires.0))

pub loop-r-preserved : goal.loop-r-preserved
loop-r-preserved c =
    let text = row_text_at c.args.doc.now c.args.names.now in
    let p = c.requires in
    let e = c.hash_of-h.ensures ∙ ap text_hash c.row_text.ensures in
    let t = c.loop-r.invariant.treed in
    let s = c.find-p.ensures text_hash text t e (λ j b l x. texts_told (text j) (text c.loop-r.r-counter) b (search rules)) in
    made_next _ _ _ _ _ _ _ _ _ _ _ _ c.loop-r.invariant (names_inside p.0 p.1 p.2 p.4) c.loop-r-test.true
    e s c.own_class-own.ensures (rw c.from-j.ensures at c.class_or.ensures) c.put_row.ensures

pub returns : goal.returns
returns c = made_all _ _ _ _ _ _ _ c.loop-r.invariant c.loop-r-test.false c.requires.0
