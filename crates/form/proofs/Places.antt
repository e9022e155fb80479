-- The place of an element in a list: once a test tells its elements apart, it is where the element stands, or the list's
-- length. Assumes nothing.
use Prim.Native.Nat.{ℕ, zero, suc, ◌≤◌, ◌<◌}
use mathlib.Core.Path.{◌≡◌, refl, ap}
use mathlib.Core.Bool.{Bool, true, false, cond}
use mathlib.Core.Option.{some}
use mathlib.Core.List.{List, [], ◌∷◌, ◌++◌}
use native.Mathlib.Omega.{arith}
use lib.ListN.{length, get_elem?}
use borrow.Author.Tests.{eqb-true, eqb-false, eq-eqb, ne_eqb}
use Rattle.sequences.specs.Lists.{same}
use Rattle.sequences.proofs.Tests.{and_left, and_right, cond_if}
use Rattle.sequences.proofs.Same.{same_true, same_itself}
use Rattle.form.specs.Canonical.{triple, same_triple, place, absent}

-- a test of equality
pub record Tells {A : Type 0} (same : A → A → Bool) : Type 0 where
  pub equal : (a b : A) → same a b ≡ true → a ≡ b
  pub itself : (a : A) → same a a ≡ true

pub tells_text : Tells same
tells_text = record { equal = same_true; itself = same_itself }

triple_equal : {a a' b b' c c' : List ℕ} → a ≡ a' → b ≡ b' → c ≡ c' → triple a b c ≡ triple a' b' c'
triple_equal i j k = cc

pub tells_triple : Tells same_triple
unfolding same_triple
tells_triple =
    record {
      equal =
          λ q r e.
          let i : q.uri ≡ r.uri = same_true _ _ (and_left (same q.uri r.uri) _ e) in
          let e' = and_right (same q.uri r.uri) _ e in
          let j : q.prefix ≡ r.prefix = same_true _ _ (and_left (same q.prefix r.prefix) _ e') in
          triple_equal i j (same_true _ _ (and_right (same q.prefix r.prefix) _ e'));
      itself = λ q. rw (same_itself q.uri, same_itself q.prefix, same_itself q.local);
    }

module _ {A : Type 0} (same : A → A → Bool) where
  pub place_le : (l : List A) (a : A) → place same l a ≤ length l
  unfolding place
  place_le [] a = omega arith
  place_le (x ∷ l) a =
      let h = place_le l a in
      cond_if (λ (n : ℕ). n ≤ suc (length l)) (same x a) 0 (suc (place same l a)) (λ e. omega arith) (λ e. omega arith)

  -- what is not absent stands before the end
  pub present : (l : List A) (a : A) → absent same l a ≡ false → place same l a < length l
  unfolding absent
  present l a e = omega (arith, place_le l a, eqb-false (place same l a) (length l) e)

  pub absent_place : (l : List A) (a : A) → absent same l a ≡ true → place same l a ≡ length l
  unfolding absent
  absent_place l a e = eqb-true (place same l a) (length l) e

  pub place_absent : (l : List A) (a : A) → place same l a ≡ length l → absent same l a ≡ true
  unfolding absent
  place_absent l a e = eq-eqb (place same l a) (length l) e

  pub place_present : (l : List A) (a : A) → place same l a < length l → absent same l a ≡ false
  unfolding absent
  place_present l a h = ne_eqb (place same l a) (length l) (λ e. omega arith)

  -- a list that grows keeps what it has, where it was
  pub place_grows : (l m : List A) (a : A) → place same l a < length l → place same (l ++ m) a ≡ place same l a
  unfolding place
  place_grows [] m a h = absurd (let q : ⊥ = omega arith in q)
  place_grows (x ∷ l) m a h = go (same x a) h (place_grows l m a)
    where
      go : (b : Bool) → cond b 0 (suc (place same l a)) < suc (length l) → (place same l a < length l → place same (l ++ m) a ≡ place same l a)
          → cond b 0 (suc (place same (l ++ m) a)) ≡ cond b 0 (suc (place same l a))
      go true h f = refl
      go false h f = ap suc (f (omega arith))

  module _ (tells : Tells same) where
    -- an element that is in the list stands at its place
    pub place_at : (l : List A) (a : A) → place same l a < length l → get_elem? l (place same l a) ≡ some a
    unfolding place
    place_at [] a h = absurd (let q : ⊥ = omega arith in q)
    place_at (x ∷ l) a h = go (same x a) refl h (place_at l a)
      where
        go : (b : Bool) → same x a ≡ b → cond b 0 (suc (place same l a)) < suc (length l) → (place same l a < length l → get_elem? l (place same l a) ≡ some a)
            → get_elem? (x ∷ l) (cond b 0 (suc (place same l a))) ≡ some a
        go true e h f = ap some (tells.equal x a e)
        go false e h f = f (omega arith)

    -- an element is in the list where it stands at some place of it, and its place is not after that one
    pub place_found : (l : List A) (k : ℕ) {a : A} → get_elem? l k ≡ some a → (place same l a ≤ k) × (k < length l)
    unfolding place
    place_found [] k e = absurd (let z : ◌≡◌ {A = ℕ} 0 1 = cc in let q : ⊥ = omega arith in q)
    place_found (x ∷ l) zero {a} e =
        let i : x ≡ a = cc in
        let t : same x a ≡ true = rw i (tells.itself a) in
        rw t (omega arith, omega arith)
    place_found (x ∷ l) (suc k) {a} e =
        let h = place_found l k {a = a} e in
        (cond_if (λ (n : ℕ). n ≤ suc k) (same x a) 0 (suc (place same l a)) (λ t. omega arith) (λ t. omega (arith, h.0)), omega (arith, h.1))

    -- an element that was absent stands at the end of the list that it was added to
    pub place_last : (l : List A) (a : A) → absent same l a ≡ true → place same (l ++ (a ∷ [])) a ≡ length l
    unfolding place
    place_last l a e = last_at l (absent_place l a e)
      where
        last_at : (l : List A) → place same l a ≡ length l → place same (l ++ (a ∷ [])) a ≡ length l
        last_at [] e = rw (tells.itself a)
        last_at (x ∷ l) e = go (same x a) e (last_at l)
          where
            go : (b : Bool) → cond b 0 (suc (place same l a)) ≡ suc (length l) → (place same l a ≡ length l → place same (l ++ (a ∷ [])) a ≡ length l)
                → cond b 0 (suc (place same (l ++ (a ∷ [])) a)) ≡ suc (length l)
            go true h f = absurd (let q : ⊥ = omega arith in q)
            go false h f = ap suc (f (omega arith))

    -- another element stays absent, at the end of the longer list
    pub place_other : (l : List A) (a b : A) → absent same l b ≡ true → (a ≡ b → ⊥) → place same (l ++ (a ∷ [])) b ≡ suc (length l)
    unfolding place
    place_other l a b e n = other_at l (absent_place l b e)
      where
        differs : (t : Bool) → same a b ≡ t → same a b ≡ false
        differs true h = absurd (n (tells.equal a b h))
        differs false h = h

        other_at : (l : List A) → place same l b ≡ length l → place same (l ++ (a ∷ [])) b ≡ suc (length l)
        other_at [] e = rw (differs (same a b) refl)
        other_at (x ∷ l) e = go (same x b) e (other_at l)
          where
            go : (t : Bool) → cond t 0 (suc (place same l b)) ≡ suc (length l) → (place same l b ≡ length l → place same (l ++ (a ∷ [])) b ≡ suc (length l))
                → cond t 0 (suc (place same (l ++ (a ∷ [])) b)) ≡ suc (suc (length l))
            go true h f = absurd (let q : ⊥ = omega arith in q)
            go false h f = ap suc (f (omega arith))
