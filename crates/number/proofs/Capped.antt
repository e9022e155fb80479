-- Sums that are kept only up to a bound past the largest value: what is left of them is exact wherever it counts. Assumes nothing.
use Prim.Native.Nat.{ℕ, zero, suc, ◌+◌, ◌*◌, ◌^◌, ◌≤◌, ◌<◌, min}
use mathlib.Core.Path.{◌≡◌}
use native.Mathlib.Decide.{dec_le}
use native.Mathlib.Nat.{mul-le-mul, add-mul, mul_assoc, mul_comm}
use native.Mathlib.Omega.{arith}

-- what code multiplies stays small
pub product_fits : (value scale bits : ℕ) → value ≤ 2147483648 → scale ≤ 34359738368 → bits < 128 → value + bits * scale < 2 ^ 64
product_fits value scale bits v s b =
    let a : bits ≤ 127 = omega arith in
    let m : bits * scale ≤ 127 * 34359738368 = mul-le-mul a s in
    omega arith

pub sum_capped : (sum unit bits : ℕ) → 1 ≤ unit
    → min (min sum 2147483648 + bits * min unit 34359738368) 2147483648 ≡ min (sum + bits * unit) 2147483648
sum_capped sum unit zero h = omega arith
sum_capped sum unit (suc bits) h = go (dec_le unit 34359738368)
  where
    go : Dec (unit ≤ 34359738368) → min (min sum 2147483648 + suc bits * min unit 34359738368) 2147483648 ≡ min (sum + suc bits * unit) 2147483648
    go (yes l) =
        let e : min unit 34359738368 ≡ unit = omega arith in
        let s : min (min sum 2147483648 + suc bits * unit) 2147483648 ≡ min (sum + suc bits * unit) 2147483648 = omega arith in
        rw e s
    go (no l) =
        let e : min unit 34359738368 ≡ 34359738368 = omega arith in
        let one : 1 ≤ suc bits = omega arith in
        let large : 34359738368 ≤ unit = omega arith in
        let m : 1 * 34359738368 ≤ suc bits * unit = mul-le-mul one large in
        let s : min (min sum 2147483648 + suc bits * 34359738368) 2147483648 ≡ min (sum + suc bits * unit) 2147483648 = omega arith in
        rw e s

pub unit_capped : (unit : ℕ) → min (min unit 34359738368 * 128) 34359738368 ≡ min (unit * 128) 34359738368
unit_capped unit = omega arith

-- the bits of one byte, then the value of the bytes after it
pub regrouped : (sum bits value unit : ℕ) → sum + (bits + 128 * value) * unit ≡ sum + bits * unit + value * (unit * 128)
regrouped sum bits value unit =
    let e : 128 * value * unit ≡ value * (unit * 128) = rw (mul_comm 128 value, mul_assoc, mul_comm 128 unit) in
    let d : (bits + 128 * value) * unit ≡ bits * unit + 128 * value * unit = add-mul bits (128 * value) unit in
    omega arith
