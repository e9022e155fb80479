-- `form_items::depth_after` meets its contract. Assumes nothing.
use native.Mathlib.Omega.{arith}
use Rattle.form_items.proofs.depth_after.Goals as goal

pub overflow_sub-result : goal.overflow_sub-result
overflow_sub-result c = let h = c.requires.1 c.in-Leave.is in omega arith

pub returns-in-Nest : goal.returns-in-Nest
returns-in-Nest c = rw c.in-Nest.is

pub returns-in-Leave : goal.returns-in-Leave
returns-in-Leave c = rw c.in-Leave.is
