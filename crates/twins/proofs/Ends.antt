-- Where a part ends, in an array that is cut. Assumes nothing.
use Prim.Native.Nat.{ℕ, zero, suc, ◌+◌, ◌-◌, ◌≤◌, ◌<◌}
use mathlib.Core.Path.{◌≡◌, ap}
use mathlib.Core.List.{List}
use native.Mathlib.Omega.{arith}
use lib.ListN.{length, get_or}
use Rattle.twins.specs.Parts.{Cut}

module _ {syms starts : List ℕ} {n : ℕ} (c : Cut syms starts n) where
  below : (d k : ℕ) → k + d ≡ n → get_or starts k 0 ≤ length syms
  below zero k e =
      let q : get_or starts k 0 ≡ get_or starts n 0 = ap (λ (x : ℕ). get_or starts x 0) (let z : k ≡ n = omega arith in z) in
      omega (arith, c.inside)
  below (suc d) k e =
      let i : get_or starts (k + 1) 0 ≤ length syms = below d (k + 1) (omega arith) in
      let o : get_or starts k 0 ≤ get_or starts (k + 1) 0 = c.order k (omega arith) in
      omega arith

  pub part_within : (k : ℕ) → k < n → (get_or starts k 0 ≤ get_or starts (k + 1) 0) × (get_or starts (k + 1) 0 ≤ length syms)
  part_within k h = (c.order k h, below (n - (k + 1)) (k + 1) (omega arith))
