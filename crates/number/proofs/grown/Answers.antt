-- `number::grown` meets its contract: neither the product nor the sum wraps. Assumes nothing.
use Rattle.number.proofs.Capped.{product_fits}
use native.Mathlib.Omega.{arith}
use Rattle.number.proofs.grown.Goals as goal

pub overflow_mul-sum : goal.overflow_mul-sum
overflow_mul-sum c =
    let a = c.args in
    let p = product_fits a.value a.scale a.bits c.requires.0 c.requires.1 c.requires.2 in
    record { fits = omega arith }

pub overflow_add-sum : goal.overflow_add-sum
overflow_add-sum c =
    let a = c.args in
    let p = product_fits a.value a.scale a.bits c.requires.0 c.requires.1 c.requires.2 in
    record { fits = omega arith }
