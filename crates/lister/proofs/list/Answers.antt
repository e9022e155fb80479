-- `lister::list` meets its contract: each of the three arrays has the room that its test asks for. Assumes nothing.
use Prim.Native.Nat.{ℕ}
use Rattle.filled.proofs.Filled.{read_filled}
use Rattle.lister_contract.proofs.Listed.{refused, listed}
use lib.ListN.{length-replicate}
use mathlib.Core.Path.{sym}
use native.Mathlib.Omega.{arith}
use Rattle.lister.proofs.list.Goals as goal

pub returns-then-read-ne0 : goal.returns-then-read-ne0
returns-then-read-ne0 c = refused c.read-read.ensures c.if-read-ne0.true c.refused.ensures

pub overflow_mul-need : goal.overflow_mul-need
overflow_mul-need c =
    let d = c.args.doc.now in
    let h = c.read-read.ensures in
    let f = read_filled d h c.if-read-ne0.false in
    omega (arith, f.short, f.efew)

pub overflow_mul-need-2 : goal.overflow_mul-need-2
overflow_mul-need-2 c =
    let d = c.args.doc.now in
    let h = c.read-read.ensures in
    let f = read_filled d h c.if-read-ne0.false in
    omega (arith, f.short, f.efew)

pub overflow_add-need : goal.overflow_add-need
overflow_add-need c =
    let d = c.args.doc.now in
    let h = c.read-read.ensures in
    let f = read_filled d h c.if-read-ne0.false in
    omega (arith, f.short, f.efew)

pub slice_bounds-list_tables-end : goal.slice_bounds-list_tables-end
slice_bounds-list_tables-end c = sym (length-replicate {A = ℕ} 40960 1)

pub list_tables-requires : goal.list_tables-requires
list_tables-requires c =
    let d = c.args.doc.now in
    let h = c.read-read.ensures in
    let f = read_filled d h c.if-read-ne0.false in
    (f, omega (arith, c.if-need-le-SMALL.true, length-replicate {A = ℕ} 40960 1))

pub returns-then-need-le-SMALL : goal.returns-then-need-le-SMALL
returns-then-need-le-SMALL c =
    listed c.args.doc.now c.read-read.ensures c.if-read-ne0.false c.list_tables.ensures

pub slice_bounds-list_tables-end-then-need-le-MEDIUM : goal.slice_bounds-list_tables-end-then-need-le-MEDIUM
slice_bounds-list_tables-end-then-need-le-MEDIUM c = sym (length-replicate {A = ℕ} 65536 1)

pub list_tables-requires-then-need-le-MEDIUM : goal.list_tables-requires-then-need-le-MEDIUM
list_tables-requires-then-need-le-MEDIUM c =
    let d = c.args.doc.now in
    let h = c.read-read.ensures in
    let f = read_filled d h c.if-read-ne0.false in
    (f, omega (arith, c.if-need-le-MEDIUM.true, length-replicate {A = ℕ} 65536 1))

pub returns-then-need-le-MEDIUM : goal.returns-then-need-le-MEDIUM
returns-then-need-le-MEDIUM c =
    listed c.args.doc.now c.read-read.ensures c.if-read-ne0.false c.list_tables-then-need-le-MEDIUM.ensures

pub slice_bounds-list_tables-end-2 : goal.slice_bounds-list_tables-end-2
slice_bounds-list_tables-end-2 c = sym (length-replicate {A = ℕ} 335872 1)

pub list_tables-requires-2 : goal.list_tables-requires-2
list_tables-requires-2 c =
    let d = c.args.doc.now in
    let h = c.read-read.ensures in
    let f = read_filled d h c.if-read-ne0.false in
    (f, omega (arith, f.short, f.efew, length-replicate {A = ℕ} 335872 1))

pub returns : goal.returns
returns c =
    listed c.args.doc.now c.read-read.ensures c.if-read-ne0.false c.list_tables-2.ensures
