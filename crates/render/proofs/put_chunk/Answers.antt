-- `render::put_chunk` meets its contract. Assumes nothing.
use Prim.Native.Nat.{◌+◌, ◌-◌, ◌*◌}
use Rattle.render_elements.proofs.Rows.{row_as, row_hashed, out_row, out_in, span, part_few}
use Rattle.sequences.proofs.Units.{units_long}
use Rattle.sequences.specs.Lists.{units_of}
use lib.ListN.{take, drop}
use mathlib.Core.Path.{refl, ap}
use native.Mathlib.Omega.{arith}
use Rattle.render.proofs.put_chunk.Goals as goal

pub returns-then-p-eq0 : goal.returns-then-p-eq0
returns-then-p-eq0 c = out_row _ _ _ _ _ _ c.if-p-eq0.true refl

pub put_units-requires : goal.put_units-requires
put_units-requires c =
    let d = c.args.doc.now in
    let a = c.args.place in
    let n = c.args.units in
    let u = units_long (take (a + 2 * n - a) (drop a d)) in
    omega (arith, u.0, part_few d a (2 * n), c.requires.1)

pub returns : goal.returns
returns c = row_as (out_in _ c.if-p-eq0.false (ap units_of (span c.args.place (2 * c.args.units) c.args.doc.now))) refl refl (row_hashed _ _ c.put_units.ensures _ c.moved.ensures)
