use Rattle.number.proofs.Going.{going_start, too_many, too_short, too_large, found, going_on}
use native.Mathlib.Omega.{arith}
use Rattle.number.proofs.read.Goals as goal

pub loop-left-init : goal.loop-left-init
loop-left-init c = going_start _ _ _

pub grown-value-requires : goal.grown-value-requires
grown-value-requires c =
    let g = c.loop-left.invariant in
    let s = g.sum_kept in
    let u = g.unit_kept in
    (omega arith, omega arith, omega arith)

pub raised-scale-requires : goal.raised-scale-requires
raised-scale-requires c = let u = c.loop-left.invariant.unit_kept in omega arith

pub loop-left-preserved : goal.loop-left-preserved
loop-left-preserved c =
    going_on c.loop-left.invariant c.if-left-eq0.false c.if-doc-next.false c.from-b.ensures
    c.grown-value.ensures c.if-b-lt128.false c.raised-scale.ensures

pub returns-then-left-eq0 : goal.returns-then-left-eq0
returns-then-left-eq0 c = too_many c.loop-left.invariant c.if-left-eq0.true

pub returns-then-doc-next : goal.returns-then-doc-next
returns-then-doc-next c = too_short c.loop-left.invariant c.if-left-eq0.false c.if-doc-next.true

pub returns-then-value-gt-LARGEST : goal.returns-then-value-gt-LARGEST
returns-then-value-gt-LARGEST c =
    too_large c.loop-left.invariant c.if-left-eq0.false c.if-doc-next.false c.from-b.ensures
    c.grown-value.ensures c.if-b-lt128.true c.if-value-gt-LARGEST.true

pub returns-else-value-gt-LARGEST : goal.returns-else-value-gt-LARGEST
returns-else-value-gt-LARGEST c =
    found c.loop-left.invariant c.if-left-eq0.false c.if-doc-next.false c.from-b.ensures
    c.grown-value.ensures c.if-b-lt128.true c.if-value-gt-LARGEST.false
