-- The list of pairs is exactly the pairs of equal elements, in order, each once; and it is kept by a function that keeps
-- the test. Assumes nothing.
use Prim.Native.Nat.{ℕ, suc, ◌+◌, ◌-◌, ◌≤◌, ◌<◌}
use mathlib.Core.Path.{◌≡◌, refl, sym, ap, ◌∙◌}
use mathlib.Core.Logic.{inl, inr, ⊎_elim, ◌↔◌}
use mathlib.Core.List.{List, [], ◌∷◌, ◌++◌, map}
use mathlib.Core.Bool.{Bool, true, false, cond}
use mathlib.Core.Option.{some}
use native.Mathlib.Omega.{arith}
use native.Mathlib.Nat.{eq-or-lt_of_le, sub-zero}
use lib.ListN.{length, get_elem?}
use Rattle.sequences.specs.Lists.{In, here, there}
use Rattle.sequences.proofs.Members.{in_none, in_cons, in_first, in_left, in_right, in_either}
use Rattle.meaning.specs.Meaning.{Pair, pair, equal_to, pairs_from, pairs_of, Before, Ascending, Once}
use Rattle.meaning.proofs.Members.{pair_in, pair_is}

some_is : {A : Type 0} {a b : A} → some a ≡ some b → a ≡ b
some_is e = cc

-- the element at a place from `k` on, of the list that starts at place `k`
at_first : {A : Type 0} (a : A) (l : List A) (k x : ℕ) → k ≡ x → get_elem? (a ∷ l) (x - k) ≡ some a
at_first a l k x e = let z : x - k ≡ 0 = omega arith in rw z refl

at_next : {A : Type 0} (a : A) (l : List A) (k x : ℕ) → k < x → get_elem? (a ∷ l) (x - k) ≡ get_elem? l (x - suc k)
at_next a l k x h = let z : x - k ≡ suc (x - suc k) = omega arith in rw z refl

module _ {A : Type 0} (same : A → A → Bool) (decides : (a b : A) → (same a b ≡ true) ↔ (a ≡ b)) where
  -- place `x` has the element `a`, in the list `l` that starts at place `j`
  record Has (a : A) (j : ℕ) (l : List A) (x : ℕ) : Type 0 where
    from : j ≤ x
    within : x < j + length l
    equal : get_elem? l (x - j) ≡ some a

  equal_in : (a : A) (j : ℕ) (l : List A) (x : ℕ) → Has a j l x → In x (equal_to same a j l)
  unfolding equal_to
  equal_in a j [] x h = absurd (let q : ⊥ = omega (arith, h.from, h.within) in q)
  equal_in a j (b ∷ l) x h = ⊎_elim
      (λ (z : j ≡ x).
      let e : a ≡ b = some_is (sym h.equal ∙ at_first b l j x z) in
      let t : same a b ≡ true = (decides a b).1 e in
      rw t (in_first (sym z)))
      (λ (z : j < x).
      go (same a b) (equal_in a (suc j) l x (record { from = z; within = omega (arith, h.within); equal = sym (at_next b l j x z) ∙ h.equal })))
      (eq-or-lt_of_le h.from)
    where
      go : (t : Bool) → In x (equal_to same a (suc j) l) → In x (cond t (j ∷ equal_to same a (suc j) l) (equal_to same a (suc j) l))
      go true i = there i
      go false i = i

  equal_is : (a : A) (j : ℕ) (l : List A) (x : ℕ) → In x (equal_to same a j l) → Has a j l x
  unfolding equal_to
  equal_is a j [] x i = absurd (in_none i)
  equal_is a j (b ∷ l) x i = go (same a b) refl (equal_is a (suc j) l x) i
    where
      later : Has a (suc j) l x → Has a j (b ∷ l) x
      later h = record {
        from = omega (arith, h.from);
        within = omega (arith, h.within);
        equal = at_next b l j x h.from ∙ h.equal;
      }

      first : same a b ≡ true → x ≡ j → Has a j (b ∷ l) x
      first t z = record {
        from = omega arith;
        within = omega arith;
        equal = at_first b l j x (sym z) ∙ ap some (sym ((decides a b).0 t));
      }

      go : (t : Bool) → same a b ≡ t → (In x (equal_to same a (suc j) l) → Has a (suc j) l x)
          → In x (cond t (j ∷ equal_to same a (suc j) l) (equal_to same a (suc j) l)) → Has a j (b ∷ l) x
      go true e h w = ⊎_elim (λ z. first e z) (λ v. later (h v)) (in_cons w)
      go false e h w = later (h w)

  -- the pair `p` is of equal elements of the list `l` that starts at place `i`
  record Equal (i : ℕ) (l : List A) (p : Pair) : Type 0 where
    from : i ≤ p.earlier
    order : p.earlier < p.later
    within : p.later < i + length l
    equal : get_elem? l (p.earlier - i) ≡ get_elem? l (p.later - i)

  from_is : (i : ℕ) (l : List A) (p : Pair) → In p (pairs_from same i l) → Equal i l p
  unfolding pairs_from
  from_is i [] p w = absurd (in_none w)
  from_is i (a ∷ l) p w = ⊎_elim
      (λ (v : In p (map (pair i) (equal_to same a (suc i) l))). first (pair_is i p (equal_to same a (suc i) l) v))
      (λ (v : In p (pairs_from same (suc i) l)). more (from_is (suc i) l p v))
      (in_either (map (pair i) (equal_to same a (suc i) l)) (pairs_from same (suc i) l) w)
    where
      first : (p.earlier ≡ i) × In p.later (equal_to same a (suc i) l) → Equal i (a ∷ l) p
      first (z, v) =
          let h = equal_is a (suc i) l p.later v in
          let lt : i < p.later = omega (arith, h.from) in
          record {
            from = omega arith;
            order = omega arith;
            within = omega (arith, h.within);
            equal = at_first a l i p.earlier (sym z) ∙ sym (at_next a l i p.later lt ∙ h.equal);
          }

      more : Equal (suc i) l p → Equal i (a ∷ l) p
      more h =
          let lt : i < p.earlier = omega (arith, h.from) in
          let le : i < p.later = omega (arith, h.order) in
          record {
            from = omega arith;
            order = h.order;
            within = omega (arith, h.within);
            equal = at_next a l i p.earlier lt ∙ h.equal ∙ sym (at_next a l i p.later le);
          }

  from_in : (i : ℕ) (l : List A) (p : Pair) → Equal i l p → In p (pairs_from same i l)
  unfolding pairs_from
  from_in i [] p h = absurd (let q : ⊥ = omega (arith, h.from, h.order, h.within) in q)
  from_in i (a ∷ l) p h = ⊎_elim
      (λ (z : i ≡ p.earlier). in_left (pairs_from same (suc i) l) (first z))
      (λ (z : i < p.earlier). in_right (map (pair i) (equal_to same a (suc i) l)) (from_in (suc i) l p (rest z)))
      (eq-or-lt_of_le h.from)
    where
      later : i < p.later
      later = omega (arith, h.from, h.order)

      first : i ≡ p.earlier → In p (map (pair i) (equal_to same a (suc i) l))
      first z = let e : p ≡ pair i p.later = ap (λ (x : ℕ). pair x p.later) (sym z) in
          rw e (pair_in i p.later (equal_to same a (suc i) l) (equal_in a (suc i) l p.later (record {
            from = later;
            within = omega (arith, h.within);
            equal = sym (at_next a l i p.later later) ∙ sym h.equal ∙ at_first a l i p.earlier z;
          })))

      rest : i < p.earlier → Equal (suc i) l p
      rest z = record {
        from = z;
        order = h.order;
        within = omega (arith, h.within);
        equal = sym (at_next a l i p.earlier z) ∙ h.equal ∙ at_next a l i p.later later;
      }

  -- a pair is in the list exactly when it is of two places of the list, the earlier first, with equal elements
  pub exact : (ms : List A) (p : Pair)
      → In p (pairs_of same ms) ↔ ((p.earlier < p.later) × (p.later < length ms) × (get_elem? ms p.earlier ≡ get_elem? ms p.later))
  unfolding pairs_of
  exact ms p = (
    λ w. let h = from_is 0 ms p w in (h.order, omega (arith, h.within), simp sub-zero at h.equal),
    λ h. from_in 0 ms p (record { from = omega arith; order = h.0; within = omega (arith, h.1); equal = simp sub-zero h.2 }),
  )

  -- equal elements are equal to the same ones
  pub joined : (ms : List A) (i j k : ℕ) → In (pair i j) (pairs_of same ms) → In (pair j k) (pairs_of same ms) → In (pair i k) (pairs_of same ms)
  joined ms i j k v w =
      let s = (exact ms (pair i j)).0 v in
      let t = (exact ms (pair j k)).0 w in
      (exact ms (pair i k)).1 (omega (arith, s.0, t.0), t.1, s.2 ∙ t.2)

  -- ---- the order

  abbrev Rising : List ℕ → Type 0
  Rising [] = Unit
  Rising (x ∷ xs) = ((y : ℕ) → In y xs → x < y) × Rising xs

  equal_rising : (a : A) (j : ℕ) (l : List A) → Rising (equal_to same a j l)
  unfolding equal_to
  equal_rising a j [] = tt
  equal_rising a j (b ∷ l) = go (same a b) (equal_rising a (suc j) l)
    where
      go : (t : Bool) → Rising (equal_to same a (suc j) l) → Rising (cond t (j ∷ equal_to same a (suc j) l) (equal_to same a (suc j) l))
      go true h = (λ y w. (equal_is a (suc j) l y w).from, h)
      go false h = h

  map_ascending : (i : ℕ) (xs : List ℕ) → Rising xs → Ascending (map (pair i) xs)
  map_ascending i [] h = tt
  map_ascending i (x ∷ xs) h =
      (λ q w. let r = pair_is i q xs w in inr (sym r.0, h.0 q.later r.1), map_ascending i xs h.1)

  append_ascending : (a b : List Pair) → Ascending a → Ascending b → ((p q : Pair) → In p a → In q b → Before p q) → Ascending (a ++ b)
  append_ascending [] b s t h = t
  append_ascending (p ∷ a) b s t h = (
    λ q w. ⊎_elim (λ v. s.0 q v) (λ v. h p q here v) (in_either a b w),
    append_ascending a b s.1 t (λ u q v w. h u q (there v) w),
  )

  from_ascending : (i : ℕ) (l : List A) → Ascending (pairs_from same i l)
  unfolding pairs_from
  from_ascending i [] = tt
  from_ascending i (a ∷ l) =
      append_ascending (map (pair i) (equal_to same a (suc i) l)) (pairs_from same (suc i) l)
      (map_ascending i (equal_to same a (suc i) l) (equal_rising a (suc i) l)) (from_ascending (suc i) l)
      (λ p q v w.
      let z = (pair_is i p (equal_to same a (suc i) l) v).0 in
      let h = (from_is (suc i) l q w).from in
      inl (omega arith))

  -- the list is strictly ascending, by the earlier place, then by the later
  pub ordered : (ms : List A) → Ascending (pairs_of same ms)
  unfolding pairs_of
  ordered ms = from_ascending 0 ms

  ascending_once : (ps : List Pair) → Ascending ps → Once ps
  ascending_once [] h = tt
  ascending_once (p ∷ ps) h = (
    λ w. ⊎_elim (λ (a : p.earlier < p.earlier). no a) (λ (a : (p.earlier ≡ p.earlier) × (p.later < p.later)). no a.1) (h.0 p w),
    ascending_once ps h.1,
  )
    where
      no : {x : ℕ} → x < x → ⊥
      no {x} a = omega arith

  -- each pair stands once
  pub once : (ms : List A) → Once (pairs_of same ms)
  once ms = ascending_once (pairs_of same ms) (ordered ms)

-- ---- a list whose elements stand for others

module _ {A B : Type 0} (same : A → A → Bool) (same' : B → B → Bool) (f : A → B) where
  equal_map : (a : A) (j : ℕ) (l : List A) → ((b : A) → In b l → same' (f a) (f b) ≡ same a b) → equal_to same' (f a) j (map f l) ≡ equal_to same a j l
  unfolding equal_to
  equal_map a j [] h = refl
  equal_map a j (b ∷ l) h = rw (h b here, equal_map a (suc j) l (λ c w. h c (there w)))

  from_map : (i : ℕ) (l : List A) → ((a b : A) → In a l → In b l → same' (f a) (f b) ≡ same a b) → pairs_from same' i (map f l) ≡ pairs_from same i l
  unfolding pairs_from
  from_map i [] h = refl
  from_map i (a ∷ l) h =
      rw (equal_map a (suc i) l (λ b w. h a b here (there w)), from_map (suc i) l (λ b c v w. h b c (there v) (there w)))

  -- a function that keeps the test on the elements keeps the list of pairs
  pub pairs_map : (ms : List A) → ((a b : A) → In a ms → In b ms → same' (f a) (f b) ≡ same a b) → pairs_of same' (map f ms) ≡ pairs_of same ms
  unfolding pairs_of
  pairs_map ms h = from_map 0 ms h
