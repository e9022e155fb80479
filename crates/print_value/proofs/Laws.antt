-- The lines of a text and of a refusal, and the answer that each stands for. Assumes nothing.
use Prim.Native.Nat.{ℕ, ◌≤◌, ◌<◌}
use mathlib.Core.Path.{◌≡◌}
use mathlib.Core.List.{List, [], ◌∷◌}
use mathlib.Core.Logic.{◌⊎◌, inl, inr}
use native.Mathlib.Omega.{arith}
use lib.ListN.{length}
use Rattle.hexadecimal.specs.Hexadecimal.{hex}
use Rattle.text.specs.declared.Shown.{Shown}
use Rattle.text.specs.declared.Shown.TheVariants.{Own, Made, Short, NoText}
use Rattle.text.specs.Shows.{part_of, text_answer}
use Rattle.print_lines.specs.Lines.{PutBefore, field, line, accepted_word, refused_word, at_word}
use Rattle.print_lines.proofs.Laws.{both_put, short_digits, long_digits, line_length}
use Rattle.print_value.specs.Printed.{text_lines, refusal, shown_lines}

pub text_put : (bytes : List ℕ) {t t₁ t₂ t₃ t₄ : List ℕ} {end a₁ a₂ a₃ a₄ : ℕ} → PutBefore t t₁ end a₁ (0x0A ∷ []) → PutBefore t₁ t₂ a₁ a₂ (hex bytes)
    → PutBefore t₂ t₃ a₂ a₃ (0x0A ∷ []) → PutBefore t₃ t₄ a₃ a₄ (field accepted_word (length bytes)) → PutBefore t t₄ end a₄ (text_lines bytes)
unfolding text_lines
text_put bytes p q r s = both_put (both_put (both_put p q) r) s

pub refusal_room : (number count : ℕ) → number < 4294967296 → count < 18446744073709551616 → length (line refused_word number at_word count) ≤ 524483
refusal_room number count h k =
    let x = short_digits number h in
    let y = long_digits count k in
    let l = line_length refused_word number at_word count in
    omega arith

pub refusal_put : (number count : ℕ) {t t' : List ℕ} {end at : ℕ} → PutBefore t t' end at (line refused_word number at_word count) → PutBefore t t' end at (refusal number count)
unfolding refusal
refusal_put number count p = p

module _ (p b : List ℕ) {s : Shown} {t t' : List ℕ} {end at : ℕ} where
  pub text_shown : {bytes : List ℕ} → ((n : ℕ) × (s ≡ Own n)) ⊎ ((n : ℕ) × (s ≡ Made n)) → bytes ≡ part_of p b s → PutBefore t t' end at (text_lines bytes)
      → PutBefore t t' end at (shown_lines (text_answer s) (part_of p b s))
  unfolding shown_lines
  text_shown (inl e) f g = rw (← f, e.1) g
  text_shown (inr e) f g = rw (← f, e.1) g

  pub short_put : {n : ℕ} → s ≡ Short n → PutBefore t t' end at (refusal 10 n) → PutBefore t t' end at (shown_lines (text_answer s) (part_of p b s))
  unfolding shown_lines
  short_put e g = rw e g

  pub none_put : s ≡ NoText → PutBefore t t' end at (refusal 12 0) → PutBefore t t' end at (shown_lines (text_answer s) (part_of p b s))
  unfolding shown_lines
  none_put e g = rw e g
