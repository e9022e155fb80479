-- `twins::after` meets its contract. Assumes nothing.
use Rattle.sequences.proofs.Tests.{tests}
use native.Mathlib.Omega.{arith}
use Rattle.twins.proofs.after.Goals as goal

pub returns-then-n-j : goal.returns-then-n-j
returns-then-n-j c = simp (tests, c.if-n-j.true)

pub overflow_cast-result : goal.overflow_cast-result
overflow_cast-result c = omega (arith, c.requires.1 c.if-n-j.false)

pub overflow_add-result : goal.overflow_add-result
overflow_add-result c = omega (arith, c.requires.1 c.if-n-j.false)

pub returns : goal.returns
returns c = simp (tests, c.if-n-j.false)
