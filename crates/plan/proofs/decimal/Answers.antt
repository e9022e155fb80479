-- `plan::decimal` meets its contract: scale, sign and number stand where the rule has them. Assumes nothing.
use Rattle.plan.proofs.Plans.{decimal_is}
use Rattle.plan.proofs.Rules.{decimal_sized}
use native.Mathlib.Omega.{arith}
use Rattle.plan.proofs.decimal.Goals as goal

pub of_bytes-size-requires : goal.of_bytes-size-requires
of_bytes-size-requires c = let s = decimal_sized _ c.requires in (omega arith, omega arith, s.fours)

pub bounds-p-2 : goal.bounds-p-2
bounds-p-2 c = let s = decimal_sized _ c.requires in omega arith

pub bounds-p-1 : goal.bounds-p-1
bounds-p-1 c = let s = decimal_sized _ c.requires in omega arith

pub overflow_cast-result : goal.overflow_cast-result
overflow_cast-result c = let s = decimal_sized _ c.requires in omega arith

pub returns : goal.returns
returns c = let e = c.of_bytes-size.ensures in decimal_is _ _ c.requires e.0 e.1 e.2
