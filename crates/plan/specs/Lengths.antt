-- Serves the code. How many units a text has, from its kind and the size of its payload (01, "Text of a value").
use Rattle.std.specs.Prelude.{ℕ, ◌+◌, ◌*◌, ◌/◌, ◌≤◌, ◌≡◌}
use Rattle.plan.specs.declared.Kind.{Kind}
use Rattle.plan.specs.declared.Kind.TheVariants.{Unshown, Same, Signed, Unsigned, Truth, Decimal, Hex, Base64}

-- `units` for a payload of `size` bytes: known for the payload itself, hexadecimal and Base64; at most 41 for a number
abbrev pub Long : Kind → ℕ → ℕ → Type 0
Long Unshown size units = ⊥
Long Same size units = size ≡ 2 * units
Long (Signed scale) size units = units ≤ 41
Long Unsigned size units = units ≤ 41
Long Truth size units = units ≤ 41
Long Decimal size units = units ≤ 41
Long Hex size units = units ≡ 2 * size
Long Base64 size units = units ≡ (size + 2) / 3 * 4
