-- The first line, and the room that it takes. Assumes nothing.
use Prim.Native.Nat.{ℕ}
use mathlib.Core.Path.{◌≡◌}
use mathlib.Core.List.{List, [], ◌∷◌}
use Rattle.sequences.proofs.Tests.{tests}
use Rattle.machine.specs.declared.Answer.{Answer}
use Rattle.print_lines.specs.Lines.{PutBefore, field, accepted_word, refused_word, at_word}
use Rattle.print_lines.proofs.Laws.{both_put}
use Rattle.print_reading.specs.Printed.{names_word, qnames_word, events_word, version_word, verdict, counts}

pub verdict_accepted : (a : Answer) {t t' : List ℕ} {end at : ℕ} → a.number ≡ 0 → PutBefore t t' end at (field accepted_word a.place) → PutBefore t t' end at (verdict a)
unfolding verdict
verdict_accepted a e p = rw e p

pub verdict_refused : (a : Answer) {t t₁ t₂ : List ℕ} {end mid at : ℕ} → (a.number ≡ 0 → ⊥) → PutBefore t t₁ end mid (field at_word a.place)
    → PutBefore t₁ t₂ mid at (field refused_word a.number) → PutBefore t t₂ end at (verdict a)
unfolding verdict
verdict_refused a n p q = simp (tests, n) (both_put p q)

pub counts_put : (names qnames events version : ℕ) {t t₁ t₂ t₃ t₄ t₅ : List ℕ} {end a₁ a₂ a₃ a₄ a₅ : ℕ} → PutBefore t t₁ end a₁ (0x0A ∷ [])
    → PutBefore t₁ t₂ a₁ a₂ (field version_word version) → PutBefore t₂ t₃ a₂ a₃ (field events_word events)
    → PutBefore t₃ t₄ a₃ a₄ (field qnames_word qnames) → PutBefore t₄ t₅ a₄ a₅ (field names_word names)
    → PutBefore t t₅ end a₅ (counts names qnames events version)
unfolding counts
counts_put names qnames events version p q r s u = both_put (both_put (both_put (both_put p q) r) s) u
