-- Numbers of 1, 2, 4 and 8 bytes: the sizes, and a number put together from its bytes. Assumes nothing.
use Prim.Native.Nat.{ℕ, ◌+◌, ◌*◌, ◌≤◌, ◌<◌}
use mathlib.Core.Path.{◌≡◌, refl, sym, subst}
use mathlib.Core.Bool.{Bool, true, false, ◌||◌}
use mathlib.Core.List.{List, [], ◌∷◌}
use native.Mathlib.Omega.{arith}
use lib.ListN.{length, get_or}
use lib.Dec.{eqb, lit<, lit≤}
use borrow.Author.Tests.{eqb-true}
use Rattle.sequences.specs.Lists.{little}
use Rattle.chunks.specs.Chunks.{word_size}

-- ---- the sizes

either : {A : Type 0} (a b : Bool) → (a || b) ≡ true → (a ≡ true → A) → (b ≡ true → A) → A
either true b e f g = f refl
either false b e f g = g e

-- what holds of each size holds of any
of_size : (P : ℕ → Type 0) → P 1 → P 2 → P 4 → P 8 → (n : ℕ) → word_size n ≡ true → P n
unfolding word_size
of_size P one two four eight n e =
    either _ (eqb n 8) e (λ e. either _ (eqb n 4) e (λ e. either (eqb n 1) (eqb n 2) e (on one) (on two)) (on four)) (on eight)
  where
    on : {k : ℕ} → P k → eqb n k ≡ true → P n
    on {k} h e = subst P (sym (eqb-true n k e)) h

pub size_within : (n : ℕ) → word_size n ≡ true → (0 < n) × (n ≤ 8)
size_within = of_size (λ n. (0 < n) × (n ≤ 8)) (lit< tt, lit≤ tt) (lit< tt, lit≤ tt) (lit< tt, lit≤ tt) (lit< tt, lit≤ tt)

-- the last arm of a `match` on a size
pub last_size : (n : ℕ) → word_size n ≡ true → ((Unit {0} × (n ≡ 1 → ⊥)) × (n ≡ 2 → ⊥)) × (n ≡ 4 → ⊥) → n ≡ 8
last_size n e h =
    of_size (λ k. n ≡ k → n ≡ 8) (λ e. absurd (h.0.0.1 e)) (λ e. absurd (h.0.1 e)) (λ e. absurd (h.1 e)) (λ e. e) n e refl

-- no other size
pub no_size : (n : ℕ) → word_size n ≡ true → (n ≡ 1 → ⊥) → (n ≡ 2 → ⊥) → (n ≡ 4 → ⊥) → (n ≡ 8 → ⊥) → ⊥
no_size n e a b c d = of_size (λ k. n ≡ k → ⊥) a b c d n e refl

-- ---- eight bytes

pub eight_bytes : (p : List ℕ) → length p ≡ 8
    → get_or p 0 0 + 256 * (get_or p 1 0 + 256 * (get_or p 2 0 + 256 * (get_or p 3 0 + 256 * (get_or p 4 0 + 256 * (get_or p 5 0 + 256 * (get_or p 6 0 + 256 * get_or p 7 0)))))) ≡ little p
eight_bytes (a ∷ b ∷ c ∷ d ∷ e ∷ f ∷ g ∷ h ∷ []) k = omega arith
eight_bytes [] k = absurd (let q : ⊥ = omega arith in q)
eight_bytes (a ∷ []) k = absurd (let q : ⊥ = omega arith in q)
eight_bytes (a ∷ b ∷ []) k = absurd (let q : ⊥ = omega arith in q)
eight_bytes (a ∷ b ∷ c ∷ []) k = absurd (let q : ⊥ = omega arith in q)
eight_bytes (a ∷ b ∷ c ∷ d ∷ []) k = absurd (let q : ⊥ = omega arith in q)
eight_bytes (a ∷ b ∷ c ∷ d ∷ e ∷ []) k = absurd (let q : ⊥ = omega arith in q)
eight_bytes (a ∷ b ∷ c ∷ d ∷ e ∷ f ∷ []) k = absurd (let q : ⊥ = omega arith in q)
eight_bytes (a ∷ b ∷ c ∷ d ∷ e ∷ f ∷ g ∷ []) k = absurd (let q : ⊥ = omega arith in q)
eight_bytes (a ∷ b ∷ c ∷ d ∷ e ∷ f ∷ g ∷ h ∷ i ∷ l) k = absurd (let q : ⊥ = omega arith in q)
