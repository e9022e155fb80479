-- The test `same` of two lists decides their equality, also after a comparison of their elements. Assumes nothing.
use Prim.Native.Nat.{ℕ, ◌≤◌, ◌<◌}
use mathlib.Core.Path.{◌≡◌, refl, sym, ap, ◌∙◌}
use mathlib.Core.Logic.{◌↔◌}
use mathlib.Core.Bool.{Bool, true, false}
use mathlib.Core.List.{List, [], ◌∷◌}
use native.Mathlib.Omega.{arith}
use lib.Dec.{eqb}
use lib.ListN.{length, get_or}
use lib.Seq.{ext_get_or}
use borrow.Author.Tests.{eq-eqb, eqb-true}
use Rattle.sequences.specs.Lists.{same}
use Rattle.sequences.proofs.Tests.{and_left, and_right}

pub never : {A : Type 0} → false ≡ true → A
never e = absurd (let z : ◌≡◌ {A = ℕ} 0 1 = cc in let q : ⊥ = omega arith in q)

pub same_itself : (a : List ℕ) → same a a ≡ true
same_itself [] = refl
same_itself (x ∷ a) = rw (eq-eqb x x refl) (same_itself a)

pub same_true : (a b : List ℕ) → same a b ≡ true → a ≡ b
same_true [] [] e = refl
same_true [] (y ∷ b) e = never e
same_true (x ∷ a) [] e = never e
same_true (x ∷ a) (y ∷ b) e =
    let h : x ≡ y = eqb-true x y (and_left (eqb x y) (same a b) e) in
    let t : a ≡ b = same_true a b (and_right (eqb x y) (same a b) e) in
    cc

-- the test of two lists decides their equality
pub same_list : (a b : List ℕ) → (same a b ≡ true) ↔ (a ≡ b)
same_list a b = (same_true a b, λ e. rw e (same_itself b))

module _ (a b : List ℕ) where
  pub not_same : (a ≡ b → ⊥) → false ≡ same a b
  not_same h = go (same a b) refl
    where
      go : (t : Bool) → same a b ≡ t → false ≡ t
      go true e = absurd (h (same_true a b e))
      go false e = refl

  pub differ : same a b ≡ false → a ≡ b → ⊥
  differ e q = never (sym e ∙ (same_list a b).1 q)

  pub differ_long : (length a ≡ length b → ⊥) → false ≡ same a b
  differ_long h = not_same (λ e. h (ap length e))

  pub differ_at : (k : ℕ) → (get_or a k 0 ≡ get_or b k 0 → ⊥) → false ≡ same a b
  differ_at k h = not_same (λ e. h (ap (λ (l : List ℕ). get_or l k 0) e))

  -- the elements below i are equal
  abbrev pub Agree : ℕ → Type 0
  Agree i = (k : ℕ) → k < i → get_or a k 0 ≡ get_or b k 0

  pub agree_all : (i : ℕ) → length a ≡ length b → length a ≤ i → Agree i → true ≡ same a b
  agree_all i e g f = sym ((same_list a b).1 (ext_get_or 0 a b e (λ k h. f k (reach k h))))
    where
      reach : (k : ℕ) → k < length a → k < i
      reach k h = omega arith
