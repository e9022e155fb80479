use Prim.Native.Nat.{ℕ, ◌<◌}
use Rattle.std.proofs.Common.{rules}
use Rattle.classes.proofs.Trees.{tree_shaped, spot_holds}
use Rattle.qname_classes.proofs.Qnames.{keyed_none, keyed_next, keyed_all, keyables, key_hash, key_list, keys_told}
use lib.ListN.{get_or, length-replicate, get_or-replicate}
use mathlib.Core.Path.{◌∙◌}
use native.Mathlib.Omega.{arith}
use Rattle.qname_classes.proofs.qname_classes.Goals as goal

pub loop-r-init : goal.loop-r-init
loop-r-init c =
    keyed_none _ _ _ _ _ _ _ _ _ c.requires.5 (length-replicate {A = ℕ} 4087 1024) (length-replicate {A = ℕ} 1024 1)
    (λ p h. get_or-replicate 4087 p 1024 0 h)

pub key_of-key-requires : goal.key_of-key-requires
key_of-key-requires c =
    let a = c.args in
    let l = c.loop-r-test.true in
    let k =
    keyables a.doc.now a.names.now a.rows a.qnames.now a.count a.classes.now c.requires.0 c.requires.6 c.requires.7
    c.loop-r.r l in
    (omega (arith, c.requires.2), omega (arith, c.requires.3), k.0, k.1, k.2)

pub find-p-requires : goal.find-p-requires
find-p-requires c =
    let few : c.loop-r.r < 1024 = omega (arith, c.loop-r-test.true, c.requires.2) in
    (few, tree_shaped c.loop-r.invariant.treed, λ j l. let h : j < 1024 = omega arith in search rules)

pub offset_bounds-tree-p : goal.offset_bounds-tree-p
offset_bounds-tree-p c =
    let a = c.args in
    let e = c.from.ensures ∙ c.key_of-key.ensures in
    let f = c.loop-r.invariant.keyed.are in
    let s = c.find-p.ensures key_hash (key_list a.qnames.now a.classes.now) c.loop-r.invariant.treed e
    (λ j b l x. keys_told (get_or c.loop-r.keys j 0) c.key_of-key.result _ _ b (search rules) (f j l) c.key_of-key.ensures) in
    omega (arith, s.inside, c.loop-r-test.true, c.requires.2)

pub bounds-tree-p : goal.bounds-tree-p
bounds-tree-p c =
    let a = c.args in
    let e = c.from.ensures ∙ c.key_of-key.ensures in
    let f = c.loop-r.invariant.keyed.are in
    let s = c.find-p.ensures key_hash (key_list a.qnames.now a.classes.now) c.loop-r.invariant.treed e
    (λ j b l x. keys_told (get_or c.loop-r.keys j 0) c.key_of-key.result _ _ b (search rules) (f j l) c.key_of-key.ensures) in
    omega (arith, s.inside, c.loop-r-test.true, c.requires.2)

pub put_row-requires : goal.put_row-requires
put_row-requires c =
    let a = c.args in
    let e = c.from.ensures ∙ c.key_of-key.ensures in
    let f = c.loop-r.invariant.keyed.are in
    let s = c.find-p.ensures key_hash (key_list a.qnames.now a.classes.now) c.loop-r.invariant.treed e
    (λ j b l x. keys_told (get_or c.loop-r.keys j 0) c.key_of-key.result _ _ b (search rules) (f j l) c.key_of-key.ensures) in
    spot_holds c.loop-r.invariant.treed s (omega (arith, c.loop-r-test.true, c.requires.2))

pub loop-r-preserved : goal.loop-r-preserved
loop-r-preserved c =
    let a = c.args in
    let p = c.requires in
    let e = c.from.ensures ∙ c.key_of-key.ensures in
    let f = c.loop-r.invariant.keyed.are in
    let s = c.find-p.ensures key_hash (key_list a.qnames.now a.classes.now) c.loop-r.invariant.treed e
    (λ j b l x. keys_told (get_or c.loop-r.keys j 0) c.key_of-key.result _ _ b (search rules) (f j l) c.key_of-key.ensures) in
    keyed_next _ _ _ _ _ _ p.0 p.6 p.7 _ _ _ _ _ _ _ _ c.loop-r.invariant c.loop-r-test.true p.2 c.key_of-key.ensures
    s (rw c.from-j.ensures at c.class_or.ensures) c.put_row.ensures

pub returns : goal.returns
returns c = keyed_all _ _ _ _ _ _ _ _ _ _ c.loop-r.invariant c.loop-r-test.false c.requires.2
