use Prim.Native.Nat.{ℕ}
use Rattle.render.proofs.Loop.{rows_first, rows_turn, rows_end_fact, row_fits, row_room, n_small, syms_long}
use Rattle.render.proofs.Names.{named_row}
use lib.ListN.{length-replicate}
use native.Mathlib.Omega.{arith}
use Rattle.render.proofs.render.Goals as goal

pub fill-requires : goal.fill-requires
fill-requires c = (c.requires.0.filled.qfew, length-replicate {A = ℕ} 1024 1, named_row c.requires.0)

pub loop-k-init : goal.loop-k-init
loop-k-init c = rows_first c.requires.0 _ _ _

pub put_row-p-requires : goal.put_row-p-requires
put_row-p-requires c =
    let d = c.requires.0 in
    let w = c.loop-k.invariant in
    let t = c.loop-k-test.true in
    let m = c.fill.ensures in
    (c.alphabet-alphabet.ensures, row_fits d w m t _ _ c.cell-token.ensures.0 c.cell-a.ensures.0, row_room d w m t _ _ c.cell-token.ensures.0 c.cell-a.ensures.0 c.requires.1, omega (arith, t, d.filled.efew), omega (arith, t, d.filled.elong), omega (arith, n_small d w), omega (arith, w.shallow, t, d.filled.efew))

pub loop-k-preserved : goal.loop-k-preserved
loop-k-preserved c =
    rows_turn c.requires.0 c.loop-k.invariant c.fill.ensures c.loop-k-test.true _ _ c.cell-token.ensures.0 c.cell-a.ensures.0
    (record { each = λ i. omega (arith, c.type_inv.doc i) }) c.put_row-p.ensures

pub shape_of-syms : goal.shape_of-syms
shape_of-syms c = syms_long c.requires.0 c.loop-k.invariant

pub returns : goal.returns
returns c = rows_end_fact c.requires.0 c.loop-k.invariant c.loop-k-test.false c.requires.1 c.told-starts c.told-hashes
