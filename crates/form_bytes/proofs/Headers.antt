-- The bytes of a header. Assumes nothing.
use Prim.Native.Nat.{ℕ, suc, ◌+◌}
use mathlib.Core.Path.{◌≡◌, ◌∙◌}
use mathlib.Core.List.{List}
use native.Mathlib.Omega.{arith}
use lib.ListN.{set}
use Rattle.form.specs.Canonical.{header_of}
use Rattle.form_output.specs.Output.{Put}

pub header_laid : (b b₁ b₂ b₃ b₄ e : List ℕ) (at version : ℕ) → b₁ ≡ set b at 0xDF → b₂ ≡ set b₁ (at + 1) 0xFF → b₃ ≡ set b₂ (at + 2) version
    → b₄ ≡ set b₃ (at + 3) 0xB0 → e ≡ set b₄ (at + 4) 0x04 → Put b e at (at + 5) (header_of version)
unfolding header_of
header_laid b b₁ b₂ b₃ b₄ e at version e₁ e₂ e₃ e₄ e₅ =
    let n₁ : at + 1 ≡ suc at = omega arith in
    let n₂ : at + 2 ≡ suc (suc at) = omega arith in
    let n₃ : at + 3 ≡ suc (suc (suc at)) = omega arith in
    let n₄ : at + 4 ≡ suc (suc (suc (suc at))) = omega arith in
    record { past = omega arith; laid = e₅ ∙ rw (n₄, e₄, n₃, e₃, n₂, e₂, n₁, e₁) }
