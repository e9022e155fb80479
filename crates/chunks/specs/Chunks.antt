-- Serves the code. What the code's numbers stand for: chunks of 18 decimal digits, and limbs of 32 bits.
use Rattle.std.specs.Prelude.{ℕ, ◌+◌, ◌*◌, ◌/◌, ◌%◌, ◌^◌, ◌≤◌, ◌<◌, ◌≡◌, Bool, ◌||◌, eqb}
use Rattle.chunks.specs.declared.Chunks.{Chunks}
use Rattle.chunks.specs.declared.Limbs.{Limbs}

-- the sizes of a whole number in bytes
unfoldable pub word_size : ℕ → Bool
word_size n = eqb n 1 || eqb n 2 || eqb n 4 || eqb n 8

-- the number: its last `left` digits are `low`, the 18 above them `mid`, all above those `high`
abbrev pub chunks_value : Chunks → ℕ
chunks_value n = n.low + 10 ^ n.left * (n.mid + 10 ^ 18 * n.high)

-- no chunk has more digits than its place holds, and at least one digit is left in the lowest
pub record Chunked (n : Chunks) : Type 0 where
  pub low_fits : n.low < 10 ^ n.left
  pub mid_fits : n.mid < 10 ^ 18
  pub high_fits : n.high < 10 ^ 18
  pub some_left : 0 < n.left
  pub few_left : n.left ≤ 18

-- the number of four limbs, each of 32 bits
abbrev pub limbs_value : Limbs → ℕ
limbs_value l = l.a + 4294967296 * (l.b + 4294967296 * (l.c + 4294967296 * l.d))

-- each limb is below 2 ^ 32
pub record LimbsFit (l : Limbs) : Type 0 where
  pub a_fits : l.a < 4294967296
  pub b_fits : l.b < 4294967296
  pub c_fits : l.c < 4294967296
  pub d_fits : l.d < 4294967296

-- `quotient` and `rest` are those of the limbs divided by 10 ^ 9
pub record Divides (l quotient : Limbs) (rest : ℕ) : Type 0 where
  pub quotient_is : limbs_value quotient ≡ limbs_value l / 1000000000
  pub rest_is : rest ≡ limbs_value l % 1000000000
  pub fits : LimbsFit quotient
