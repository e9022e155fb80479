-- Fields of a line, and a token's digits. Assumes nothing.
use Prim.Native.Nat.{ℕ, ◌+◌, ◌≤◌, ◌<◌}
use mathlib.Core.Path.{◌≡◌, refl}
use mathlib.Core.List.{List, ◌++◌}
use native.Mathlib.Omega.{arith}
use lib.ListN.{length, length-append}
use Rattle.hexadecimal.specs.Hexadecimal.{hex}
use Rattle.print_lines.specs.Lines.{PutBefore, field}
use Rattle.print_lines.proofs.Laws.{both_put, short_digits, long_digits}
use Rattle.print_rows.specs.Rows.{event_word, token_digits}

-- a field with a number of 64 bits, and one with a number of 32
pub field_long : (word : List ℕ) (n : ℕ) → n < 18446744073709551616 → length (field word n) ≤ length word + 20
field_long word n h = let d = long_digits n h in simp length-append (omega arith)

pub field_short : (word : List ℕ) (n : ℕ) → n < 4294967296 → length (field word n) ≤ length word + 10
field_short word n h = let d = short_digits n h in simp length-append (omega arith)

pub token_length : (token : ℕ) → length (token_digits token) ≡ 2
unfolding hex
token_length token = refl

pub token_put : (token : ℕ) {t t₁ t₂ : List ℕ} {end mid at : ℕ} → PutBefore t t₁ end mid (token_digits token) → PutBefore t₁ t₂ mid at event_word
    → PutBefore t t₂ end at (event_word ++ token_digits token) × (end ≤ at + 8)
token_put token p q = (both_put p q, omega (arith, p.place, q.place, token_length token))
