-- The last digit of a number in chunks is that of its lowest chunk. Assumes nothing.
use Prim.Native.Nat.{ℕ, ◌+◌}
use Rattle.chunks.proofs.Chunked.{last_digit}
use mathlib.Core.Path.{ap}
use Rattle.numeral.proofs.ChunksDecimal.digit.Goals as goal

pub returns : goal.returns
returns c = ap (λ (x : ℕ). 48 + x) (last_digit c.args.self c.requires)
