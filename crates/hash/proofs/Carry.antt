-- A multiply with carry stays below 2 ^ 64. Assumes nothing.
use Prim.Native.Nat.{ℕ, ◌+◌, ◌*◌, ◌<◌, ◌/◌, ◌%◌, ◌^◌}
use native.Mathlib.Omega.{arith}

pub high : (x : ℕ) → x < 2 ^ 64 → x / 4294967296 < 4294967296
high x p = omega arith

pub low : (x : ℕ) → x % 4294967296 < 4294967296
low x = omega arith

pub carry : (l h : ℕ) → l < 4294967296 → h < 4294967296 → l * 4294957665 + h < 2 ^ 64
carry l h p q = omega arith

pub carry_more : (l h b : ℕ) → l < 4294967296 → h < 4294967296 → b < 4294967296 → l * 4294957665 + h + b < 2 ^ 64
carry_more l h b p q r = omega arith
