-- Serves the code. Bounds that a caller of `value::read` and `value::text_at` needs.
use Rattle.std.specs.Prelude.{ℕ, ◌+◌, ◌*◌, ◌≤◌, ◌<◌, Result, Ok, Err}
use Rattle.token.specs.Tokens.{largest}
use Rattle.value.specs.declared.Text as declared
use Rattle.token.specs.declared.Refusal.{Refusal}
use Rattle.value.specs.declared.Field.{Field}
use Rattle.value.specs.declared.Field.TheVariants.{Payload, Reference}

-- bounds that a caller needs
abbrev pub Lies : ℕ → ℕ → Result declared.Text Refusal → Type 0
Lies size at (Ok t) = (at < t.place) × (t.place + 2 * t.units ≤ size) × (t.units ≤ largest)
Lies size at (Err r) = Unit

abbrev pub Inside : ℕ → ℕ → Result Field Refusal → Type 0
Inside size at (Ok (Payload place n)) = (at < place) × (place + n ≤ size)
Inside size at (Ok (Reference number next)) = (at < next) × (next ≤ size) × (number.0 ≤ largest)
Inside size at (Err r) = Unit
