use Rattle.print_lines.proofs.Loops.{digits_start, digit_room, digits_next, digits_end}
use native.Mathlib.Omega.{arith}
use Rattle.print_lines.proofs.put_decimal.Goals as goal

pub loop-v-init : goal.loop-v-init
loop-v-init c = digits_start c.args.n c.args.text.now c.args.end c.requires.0 c.requires.1

pub overflow_sub-at : goal.overflow_sub-at
overflow_sub-at c = digit_room c.loop-v.invariant

pub bounds-text-at : goal.bounds-text-at
bounds-text-at c = let f = c.loop-v.invariant in omega (arith, f.put.place, f.put.long, f.inside, digit_room f)

pub loop-v-smaller : goal.loop-v-smaller
loop-v-smaller c = let r = digit_room c.loop-v.invariant in omega (arith, r)

pub loop-v-preserved : goal.loop-v-preserved
loop-v-preserved c = digits_next c.loop-v.invariant c.if-v-eq0.false

pub shape_of-text : goal.shape_of-text
shape_of-text c = (digits_end c.loop-v.invariant c.if-v-eq0.true).long

pub returns : goal.returns
returns c = digits_end c.loop-v.invariant c.if-v-eq0.true
