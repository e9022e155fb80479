use Prim.Native.Nat.{◌-◌, ◌*◌}
use Rattle.print_lines.proofs.Laws.{both_put}
use Rattle.print_lines.specs.Lines.{field}
use Rattle.print_rows.proofs.Fields.{field_short}
use Rattle.print_rows.proofs.Rows.{rows_start, rows_next, numbers_from, numbers_none, numbers_next, numbers_end}
use mathlib.Core.List.{[], ◌∷◌}
use mathlib.Core.Path.{◌∙◌}
use native.Mathlib.Omega.{arith}
use Rattle.print_rows.proofs.put_numbers.Goals as goal

pub put_word-at-requires : goal.put_word-at-requires
put_word-at-requires c = (omega (arith, c.requires.3), c.requires.4)

pub loop-k-init : goal.loop-k-init
loop-k-init c =
    let at = c.put_word-at.result in
    rows_start (numbers_from c.args.table.now c.args.from c.args.count) (λ j. at - 11 * (c.args.count - j)) c.put_word-at.new.text at c.args.count
    (omega arith) (numbers_none c.args.table.now c.args.from c.args.count)

pub overflow_add-from : goal.overflow_add-from
overflow_add-from c = omega (arith, c.requires.1, c.requires.2, c.loop-k.invariant.few)

pub cell-requires : goal.cell-requires
cell-requires c = omega (arith, c.requires.0, c.loop-k.invariant.few, c.loop-k-test.true)

pub put_field-at-requires : goal.put_field-at-requires
put_field-at-requires c =
    let f = c.loop-k.invariant in
    let p = c.put_word-at.ensures in
    let n = field_short (0x20 ∷ []) c.cell.result c.cell.ensures.1 in
    (omega (arith, n, f.roomy, f.few, p.place, c.requires.3, c.loop-k-test.true), omega (arith, f.put.place, f.put.long, p.place, p.long, c.requires.4))

pub loop-k-preserved : goal.loop-k-preserved
loop-k-preserved c =
    let f = c.loop-k.invariant in
    let p = c.put_field-at.ensures in
    let n = c.cell.result in
    let l = field_short (0x20 ∷ []) n c.cell.ensures.1 in
    let more = c.loop-k-test.true in
    rows_next (field (0x20 ∷ []) n) f p
    (numbers_next c.args.table.now c.args.from c.args.count c.loop-k.k n c.requires.0 (omega (arith, more)) f.few c.cell.ensures.0)
    (omega (arith, l, p.place, f.roomy, f.few, more))

pub shape_of-text : goal.shape_of-text
shape_of-text c = let p = c.put_word-at.ensures in c.loop-k.invariant.put.long ∙ p.long

pub returns : goal.returns
returns c =
    let f = c.loop-k.invariant in
    let p = c.put_word-at.ensures in
    let e = numbers_end c.args.table.now c.args.from c.args.count c.loop-k.k c.loop-k-test.false in
    (both_put p (rw e at f.put), omega (arith, f.roomy, p.place, c.loop-k-test.false))
