-- The next equal part lies on the chain of its slot. Assumes nothing.
use Prim.Native.Nat.{ℕ, ◌+◌, ◌≤◌, ◌<◌}
use mathlib.Core.Path.{◌≡◌, refl, sym, ap, ◌∙◌}
use mathlib.Core.Logic.{◌⊎◌, inl, inr, ⊎_elim}
use mathlib.Core.List.{List}
use mathlib.Core.Bool.{Bool, true, false}
use native.Mathlib.Omega.{arith}
use native.Mathlib.Nat.{eq-or-lt_of_le}
use lib.Dec.{ltb}
use borrow.Author.Tests.{ltb-true, ltb-false}
use Rattle.sequences.specs.Lists.{same}
use Rattle.sequences.proofs.Same.{same_true, differ}
use Rattle.twins.specs.Parts.{Next}
use Rattle.twins.specs.Search.{part_slot, Head}

pub split : (x j : ℕ) → (x < j) ⊎ (j ≤ x)
split x j = go (ltb x j) refl
  where
    go : (t : Bool) → ltb x j ≡ t → (x < j) ⊎ (j ≤ x)
    go true e = inl (ltb-true x j e)
    go false e = inr (ltb-false x j e)

module _ (m : ℕ → List ℕ) (n i : ℕ) where
  -- no part before j is equal to part i, and j is in the slot of i
  pub record Walk (j : ℕ) : Type 0 where
    pub after : i < j
    pub within : j ≤ n
    pub none : (x : ℕ) → i < x → x < j → m i ≡ m x → ⊥
    pub in_slot : j < n → part_slot (m i) ≡ part_slot (m j)

  pub walk_first : (b j : ℕ) → b ≡ part_slot (m i) → Head (λ x. part_slot (m x)) n b (i + 1) j → Walk j
  walk_first b j e h =
      record {
        after = omega (arith, h.from);
        within = h.within;
        none = λ x l k q. h.none x (omega arith) k (sym (ap part_slot q) ∙ sym e);
        in_slot = λ l. sym e ∙ sym (h.hits l);
      }

  pub walk_on : (j k : ℕ) (r : Bool) → Walk j → j < n → r ≡ same (m i) (m j) → r ≡ false → Next (λ x. part_slot (m x)) n j k → Walk k
  walk_on j k r w l e y c =
      record {
        after = omega (arith, w.after, c.after);
        within = c.within;
        none = λ x a b q. ⊎_elim (λ (f : x < j). w.none x a f q) (λ (f : j ≤ x). from x b f q) (split x j);
        in_slot = λ h. w.in_slot l ∙ c.twin h;
      }
    where
      from : (x : ℕ) → x < k → j ≤ x → m i ≡ m x → ⊥
      from x b f q = ⊎_elim
          (λ (z : j ≡ x). differ (m i) (m j) (sym e ∙ y) (q ∙ sym (ap m z)))
          (λ (g : j < x). c.none x g b (sym (w.in_slot l) ∙ ap part_slot q))
          (eq-or-lt_of_le f)

  pub walk_hit : (j : ℕ) (r : Bool) → Walk j → r ≡ same (m i) (m j) → r ≡ true → Next m n i j
  walk_hit j r w e y =
      record { after = w.after; within = w.within; none = w.none; twin = λ l. same_true (m i) (m j) (sym e ∙ y) }

  pub walk_end : (j : ℕ) → Walk j → n ≤ j → Next m n i j
  walk_end j w h = record { after = w.after; within = w.within; none = w.none; twin = λ l. absurd (never l) }
    where
      never : j < n → ⊥
      never l = omega arith
