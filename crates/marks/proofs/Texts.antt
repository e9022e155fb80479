-- The prefixes of declarations. Assumes nothing.
use Prim.Native.Nat.{ℕ, ◌<◌}
use mathlib.Core.Path.{◌≡◌, refl, sym, ◌∙◌}
use mathlib.Core.Bool.{Bool, true, false, ◌||◌}
use mathlib.Core.List.{List}
use native.Mathlib.Omega.{arith}
use lib.ListN.{length, take, length-take}
use Rattle.sequences.specs.Lists.{same}
use Rattle.sequences.proofs.Same.{differ_long}
use Rattle.meaning.specs.Meaning.{xmlns}
use Rattle.marks.specs.Names.{xmlns_colon}

or_right : (t : Bool) → (t || false) ≡ t
or_right true = refl
or_right false = refl

module _ (t : List ℕ) where
  pub xmlns_short : length t ≡ 10 → (r : Bool) → r ≡ same t xmlns → r ≡ (same t xmlns || same (take 12 t) xmlns_colon)
  xmlns_short h r e =
      let n : length (take 12 t) ≡ 10 = simp length-take (omega arith) in
      let f : same (take 12 t) xmlns_colon ≡ false = sym (differ_long (take 12 t) xmlns_colon (λ x. let q : ⊥ = omega arith in q)) in
      e ∙ rw f (sym (or_right (same t xmlns)))

  pub xmlns_none : (length t ≡ 10 → ⊥) → length t < 12 → false ≡ (same t xmlns || same (take 12 t) xmlns_colon)
  xmlns_none g h =
      let n : length (take 12 t) ≡ length t = simp length-take (omega arith) in
      let f : same (take 12 t) xmlns_colon ≡ false = sym (differ_long (take 12 t) xmlns_colon (λ x. let q : ⊥ = omega arith in q)) in
      let i : same t xmlns ≡ false = sym (differ_long t xmlns (λ x. let q : ⊥ = omega (arith, g) in q)) in
      rw (i, f)

  pub xmlns_long : (length t ≡ 10 → ⊥) → (r : Bool) → r ≡ same (take 12 t) xmlns_colon → r ≡ (same t xmlns || same (take 12 t) xmlns_colon)
  xmlns_long g r e =
      let i : same t xmlns ≡ false = sym (differ_long t xmlns (λ x. let q : ⊥ = omega (arith, g) in q)) in
      e ∙ rw i
