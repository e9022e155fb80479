-- Serves the code. Bounds that a caller of `number::read` needs.
use Rattle.std.specs.Prelude.{ℕ, ◌≤◌, ◌<◌, Result, Ok, Err}
use Rattle.token.specs.Tokens.{largest}
use Rattle.number.specs.declared.Number.{Number}
use Rattle.token.specs.declared.Refusal.{Refusal}

-- one past the largest value; and what a one counts past the bytes of any such value
abbrev pub over_largest : ℕ
over_largest = 2147483648

abbrev pub scale_end : ℕ
scale_end = 34359738368

-- bounds that a caller needs
abbrev pub Within : ℕ → ℕ → Result Number Refusal → Type 0
Within size at (Ok n) = (at < n.next) × (n.next ≤ size) × (n.value ≤ largest)
Within size at (Err r) = Unit
