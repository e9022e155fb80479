-- The equal parts after a part, from the next equal one; and the pairs, part by part. Assumes nothing.
use Prim.Native.Nat.{ℕ, zero, suc, ◌+◌, ◌-◌, ◌*◌, ◌≤◌, ◌<◌}
use mathlib.Core.Path.{◌≡◌, refl, sym, ap, ◌∙◌}
use mathlib.Core.List.{List, [], ◌∷◌, ◌++◌, map}
use mathlib.Core.Bool.{Bool, true, false, cond}
use native.Mathlib.Omega.{arith}
use native.Mathlib.Nat.{add-zero}
use lib.ListN.{length, get_or}
use Rattle.sequences.specs.Lists.{same}
use Rattle.sequences.proofs.Same.{not_same, same_list}
use Rattle.meaning.specs.Meaning.{Pair, pair, equal_to, pairs_from, flat_pairs}
use Rattle.twins.specs.Parts.{values, Next}
use Rattle.twins.specs.Search.{twins_of, pairs_after}

pub length_values : {A : Type 0} (m : ℕ → A) (f k : ℕ) → length (values m f k) ≡ f
unfolding values
length_values m zero k = refl
length_values m (suc f) k = ap suc (length_values m f (suc k))

pub values_at : {A : Type 0} (m : ℕ → A) (d : A) (f k x : ℕ) → x < f → get_or (values m f k) x d ≡ m (k + x)
unfolding values
values_at m d zero k x h = absurd (let q : ⊥ = omega arith in q)
values_at m d (suc f) k zero h = rw (add-zero k)
values_at m d (suc f) k (suc x) h =
    let l : x < f = omega arith in
    let e : suc k + x ≡ k + suc x = omega arith in
    values_at m d f (suc k) x l ∙ ap m e

equal_few : (a : List ℕ) (j : ℕ) (l : List (List ℕ)) → length (equal_to same a j l) ≤ length l
unfolding equal_to
equal_few a j [] = omega arith
equal_few a j (b ∷ l) = go (same a b) (equal_few a (suc j) l)
  where
    go : (t : Bool) → length (equal_to same a (suc j) l) ≤ length l
        → length (cond t (j ∷ equal_to same a (suc j) l) (equal_to same a (suc j) l)) ≤ suc (length l)
    go true i = omega arith
    go false i = omega arith

-- the places from k on, below n, at which m is equal to a
abbrev places_of : (ℕ → List ℕ) → ℕ → List ℕ → ℕ → List ℕ
places_of m n a k = equal_to same a k (values m (n - k) k)

module _ (m : ℕ → List ℕ) (n : ℕ) where
  pub twins_few : (i : ℕ) → length (twins_of m n i) ≤ n - suc i
  twins_few i =
      let e : length (values m (n - suc i) (suc i)) ≡ n - suc i = length_values m (n - suc i) (suc i) in
      let f : length (twins_of m n i) ≤ length (values m (n - suc i) (suc i)) = equal_few (m i) (suc i) _ in
      omega arith

  places_step : (a : List ℕ) (k : ℕ) → k < n
      → places_of m n a k ≡ cond (same a (m k)) (k ∷ places_of m n a (suc k)) (places_of m n a (suc k))
  unfolding equal_to values
  places_step a k h = let e : n - k ≡ suc (n - suc k) = omega arith in rw e

  places_none : (a : List ℕ) (k : ℕ) → n ≤ k → places_of m n a k ≡ []
  unfolding equal_to values
  places_none a k h = let e : n - k ≡ 0 = omega arith in rw e

  places_skip : (a : List ℕ) (d k : ℕ) → k + d ≤ n → ((x : ℕ) → k ≤ x → x < k + d → same a (m x) ≡ false)
      → places_of m n a k ≡ places_of m n a (k + d)
  places_skip a zero k h f = rw (add-zero k)
  places_skip a (suc d) k h f =
      let l : k < n = omega arith in
      let b : same a (m k) ≡ false = f k (omega arith) (omega arith) in
      let e : suc k + d ≡ k + suc d = omega arith in
      let i : places_of m n a (suc k) ≡ places_of m n a (suc k + d) =
      places_skip a d (suc k) (omega arith) (λ x p q. f x (omega arith) (omega arith)) in
      places_step a k l ∙ rw b (i ∙ rw e)

  pub pairs_step : (i : ℕ) → i < n → pairs_after m n i ≡ map (pair i) (twins_of m n i) ++ pairs_after m n (suc i)
  unfolding pairs_from values
  pairs_step i h = let e : n - i ≡ suc (n - suc i) = omega arith in rw e

  pub pairs_none : (i : ℕ) → n ≤ i → pairs_after m n i ≡ []
  unfolding pairs_from values
  pairs_none i h = let e : n - i ≡ 0 = omega arith in rw e

module _ (m : ℕ → List ℕ) (n i j : ℕ) (x : Next m n i j) where
  skipped : twins_of m n i ≡ places_of m n (m i) j
  skipped =
      let a = x.after in
      let w = x.within in
      let e : suc i + (j - suc i) ≡ j = omega arith in
      places_skip m n (m i) (j - suc i) (suc i) (omega arith)
      (λ y l h. sym (not_same (m i) (m y) (x.none y (omega arith) (omega arith))))
      ∙ rw e

  pub twins_next : j < n → twins_of m n i ≡ j ∷ twins_of m n j
  twins_next h =
      let e : m i ≡ m j = x.twin h in
      skipped ∙ places_step m n (m i) j h ∙ rw ((same_list (m i) (m j)).1 e) (rw e)

  pub twins_end : n ≤ j → twins_of m n i ≡ []
  twins_end h = skipped ∙ places_none m n (m i) j h

pub flat_append : (p q : List Pair) → flat_pairs (p ++ q) ≡ flat_pairs p ++ flat_pairs q
flat_append [] q = refl
flat_append (x ∷ p) q = ap (λ (l : List ℕ). x.earlier ∷ x.later ∷ l) (flat_append p q)

pub flat_long : (p : List Pair) → length (flat_pairs p) ≡ 2 * length p
flat_long [] = refl
flat_long (x ∷ p) = let i : length (flat_pairs p) ≡ 2 * length p = flat_long p in omega arith
