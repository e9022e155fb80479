-- `lister::list_tables` meets its contract. Assumes nothing.
use Prim.Native.Nat.{ℕ}
use Rattle.lister_contract.proofs.Listed.{too_small, written, numbers_fit}
use Rattle.sequences.specs.Lists.{Bytes}
use lib.ListN.{length-replicate}
use mathlib.Core.Path.{refl, sym}
use native.Mathlib.Omega.{arith}
use Rattle.lister.proofs.list_tables.Goals as goal

pub name_classes-requires : goal.name_classes-requires
name_classes-requires c =
    let f = c.requires.0 in
    (f.few, f.long, f.short, length-replicate {A = ℕ} 1024 1, f.names_fit)

pub render-records-requires : goal.render-records-requires
render-records-requires c =
    let n = c.name_classes.ensures in
    (record { filled = c.requires.0; classes_long = n.1; classes_are = n.0 }, c.requires.1)

pub slice_bounds-link-end : goal.slice_bounds-link-end
slice_bounds-link-end c = sym c.render-records.ensures.starts_long

pub link-count-requires : goal.link-count-requires
link-count-requires c =
    let g = c.render-records.ensures in
    (g.few, g.cut, length-replicate {A = ℕ} 2048 1, g.hashes_are)

pub returns-then-pairs-count : goal.returns-then-pairs-count
returns-then-pairs-count c =
    let f = c.requires.0 in
    let b : Bytes c.args.doc.now = record { each = λ k. omega (arith, c.type_inv.doc k) } in
    let n = c.name_classes.ensures in
    too_small c.args.read b (record { filled = f; classes_long = n.1; classes_are = n.0 }) c.render-records.ensures c.link-count.ensures.0 c.if-pairs-count.true refl

pub slice_bounds-write_pairs-end : goal.slice_bounds-write_pairs-end
slice_bounds-write_pairs-end c = sym c.render-records.ensures.starts_long

pub write_pairs-requires : goal.write_pairs-requires
write_pairs-requires c =
    let g = c.render-records.ensures in
    let l = c.link-count.ensures in
    (g.few, l.2, l.1, numbers_fit _ _ _ l.0 c.if-pairs-count.false)

pub returns : goal.returns
returns c =
    let f = c.requires.0 in
    let b : Bytes c.args.doc.now = record { each = λ k. omega (arith, c.type_inv.doc k) } in
    let n = c.name_classes.ensures in
    written c.args.read b (record { filled = f; classes_long = n.1; classes_are = n.0 }) c.render-records.ensures c.link-count.ensures.0 c.if-pairs-count.false c.write_pairs.ensures refl
