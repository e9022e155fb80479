use mathlib.Core.Path.{sym, ◌∙◌}
use native.Mathlib.Omega.{arith}
use Rattle.sequences.proofs.Same.{never}
use Rattle.classes.proofs.Trees.{way_before, way_on, way_hit, way_end}
use Rattle.classes.proofs.find.Goals as goal

pub returns-then-same : goal.returns-then-same
returns-then-same g c = λ hash m t e k.
    let w = c.loop-j.invariant.2 hash m t e k in
    let l = c.loop-j-test.true in
    way_hit w l ((k c.loop-j.j c.same.result (way_before w t c.requires.0 l) c.same.ensures).0 c.if-same.true)

pub loop-j-preserved : goal.loop-j-preserved
loop-j-preserved g c =
    let v = c.loop-j.invariant in
    let l = c.loop-j-test.true in
    let b = c.requires.1.earlier c.loop-j.p (omega (arith, v.1, c.requires.0)) (omega (arith, v.0, l)) in (
      c.from-j-in-loop-j.ensures,
      omega (arith, b, v.0),
      λ hash m t e k.
          let w = v.2 hash m t e k in
          rw c.from-j-in-loop-j.ensures
          (way_on w t c.requires.0 l
          (λ q. never (sym c.if-same.false ∙ (k c.loop-j.j c.same.result (way_before w t c.requires.0 l) c.same.ensures).1 q))),
    )

pub returns : goal.returns
returns g c = λ hash m t e k. way_end (c.loop-j.invariant.2 hash m t e k) c.loop-j-test.false
