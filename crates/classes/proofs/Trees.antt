-- The way down the tree for the hash of a value, and the tree with one row more. Assumes nothing.
use Prim.Native.Nat.{ℕ, ◌+◌, ◌*◌, ◌/◌, ◌%◌, ◌≤◌, ◌<◌, min}
use mathlib.Core.Path.{◌≡◌, refl, ap, sym, subst, ◌∙◌}
use mathlib.Core.Bool.{Bool, true, false, cond}
use mathlib.Core.List.{List}
use native.Mathlib.Omega.{arith}
use lib.Dec.{eqb, ltb}
use lib.ListN.{length, get_or, set, length-set}
use lib.Seq.{get_or-set_same, get_or-set_other}
use borrow.Author.Count.{below_none, below_more}
use borrow.Author.Tests.{ltb-true, ltb-false, eqb-true, eqb-false}
use Rattle.sequences.proofs.Tests.{cond_if}
use Rattle.classes.proofs.FirstValues.{FirstValues}
use Rattle.classes.specs.Tree.{below, Met, there, down, Stands, Tree, Shaped, Kept, Spot}

module _ {A : Type 0} {m : ℕ → A} {tree : List ℕ} where
  -- what is met past a row that has not the value is met below it
  met_below : {a : A} {p x : ℕ} → Met m tree a p x → (m (get_or tree p 0) ≡ a → ⊥) → Met m tree a (below (get_or tree p 0) x) (x / 2)
  met_below (there h e) n = absurd (n e)
  met_below (down h w) n = w

  met_row : {a : A} {p x : ℕ} → Met m tree a p x → get_or tree p 0 < 1024
  met_row (there h e) = h
  met_row (down h w) = h

  met_kept : {tree' : List ℕ} {a : A} {p x : ℕ} → Kept tree tree' → Met m tree a p x → Met m tree' a p x
  met_kept {p = p} k (there h e) = there {p = p} (rw (k p h) h) (rw (k p h) e)
  met_kept {p = p} {x = x} k (down h w) = down {p = p} {x = x} (rw (k p h) h) (rw (k p h) (met_kept k w))

-- the way down for the value of row r is at place p, where row j stands and x is left of the hash
pub record Way {A : Type 0} (hash : A → ℕ) (m : ℕ → A) (r : ℕ) (tree : List ℕ) (x p j : ℕ) : Type 0 where
  pub row : j ≡ get_or tree p 0
  pub inside : p < 2039 + 2 * r
  pub ahead : (k : ℕ) → k < r → m k ≡ m r → Met m tree (m r) p x
  pub back : (tree' : List ℕ) → Kept tree tree' → Met m tree' (m r) p x → Stands hash m tree' (m r)

module _ {A : Type 0} {hash : A → ℕ} {m : ℕ → A} {r : ℕ} {tree : List ℕ} where
  pub way_first : (h : ℕ) → Tree hash m r tree → h ≡ hash (m r) → Way hash m r tree h (h % 2039) (get_or tree (h % 2039) 0)
  way_first h x e =
      record {
        row = refl;
        inside = omega arith;
        ahead = λ k l q. rw e (subst (λ (a : A). Stands hash m tree a) q (x.each k l));
        back = λ t k w. rw e at w;
      }

  module _ {x p j : ℕ} (w : Way hash m r tree x p j) where
    way_place : r < 1024 → p < 4087
    way_place l = omega (arith, w.inside)

    pub way_before : Tree hash m r tree → r < 1024 → j < 1024 → j < r
    way_before t l h = rw w.row (t.before p (way_place l) (rw w.row at h))

    pub way_on : Tree hash m r tree → r < 1024 → j < 1024 → (m j ≡ m r → ⊥) → Way hash m r tree (x / 2) (below j x) (get_or tree (below j x) 0)
    way_on t l h n =
        let b : j < r = way_before t l h in
        record {
          row = refl;
          inside = omega arith;
          ahead = λ k i q. rw w.row (met_below (w.ahead k i q) (λ e. n (rw w.row e)));
          back = λ t' k v. w.back t' k (further t' k v);
        }
      where
        further : (t' : List ℕ) → Kept tree t' → Met m t' (m r) (below j x) (x / 2) → Met m t' (m r) p x
        further t' k v =
            let e : get_or t' p 0 ≡ j = k p (rw w.row at h) ∙ sym w.row in
            down {p = p} {x = x} (rw e h) (rw e v)

    pub way_hit : j < 1024 → m j ≡ m r → Spot hash m r tree p
    way_hit h e =
        record {
          inside = w.inside;
          has = λ _. rw w.row at e;
          none = λ q. absurd (let z : ⊥ = omega (arith, w.row) in z);
          lands = λ t k l i. w.back t k (there l i);
        }

    pub way_end : 1024 ≤ j → Spot hash m r tree p
    way_end h =
        record {
          inside = w.inside;
          has = λ q. absurd (let z : ⊥ = omega (arith, w.row) in z);
          none = λ q k i e. let l = met_row (w.ahead k i e) in omega (arith, w.row);
          lands = λ t k l i. w.back t k (there l i);
        }

-- the place for a row lies in the tree, and what stands there is a row or none
pub spot_holds : {A : Type 0} {hash : A → ℕ} {m : ℕ → A} {r p : ℕ} {tree : List ℕ} → Tree hash m r tree → Spot hash m r tree p → r < 1024
    → (p < 4087) × (r < 1024) × (get_or tree p 0 ≤ 1024)
spot_holds {p = p} t s l = let h : p < 4087 = omega (arith, s.inside) in (h, l, t.within p h)

-- what the way down needs of a tree
pub tree_shaped : {A : Type 0} {hash : A → ℕ} {m : ℕ → A} {r : ℕ} {tree : List ℕ} → Tree hash m r tree → Shaped r tree
tree_shaped t = record { held = t.within; earlier = t.before; deeper = t.after }

-- no row
pub tree_none : {A : Type 0} (hash : A → ℕ) (m : ℕ → A) (tree : List ℕ) → length tree ≡ 4087 → ((p : ℕ) → p < 4087 → get_or tree p 0 ≡ 1024) → Tree hash m 0 tree
tree_none hash m tree l f =
    record {
      long = l;
      within = λ p h. omega (arith, f p h);
      before = λ p h i. absurd (let z : ⊥ = omega (arith, f p h) in z);
      after = λ j x h. omega (arith, f (below j x) (omega arith));
      each = below_none _;
    }

-- row r at its place, where no earlier row is there
module _ {A : Type 0} {hash : A → ℕ} {m : ℕ → A} {r : ℕ} {tree : List ℕ} (t : Tree hash m r tree) (p : ℕ) (s : Spot hash m r tree p) (l : r < 1024) where
  -- the first row with its value
  abbrev first : ℕ
  first = min (get_or tree p 0) r

  place : p < 4087
  place = omega (arith, s.inside)

  here : get_or (set tree p first) p 0 ≡ first
  here = get_or-set_same tree p first 0 (omega (arith, t.long, place))

  -- at each place stands what stood there, or first
  at_each : (P : ℕ → ℕ → Type 0) → P p first → ((q : ℕ) → (q ≡ p → ⊥) → P q (get_or tree q 0)) → (q : ℕ) → P q (get_or (set tree p first) q 0)
  at_each P a f q = go (eqb q p) refl
    where
      go : (b : Bool) → eqb q p ≡ b → P q (get_or (set tree p first) q 0)
      go true i = let z : q ≡ p = eqb-true q p i in rw (z, here) a
      go false i = let z : q ≡ p → ⊥ = eqb-false q p i in rw (get_or-set_other tree p q first 0 z) (f q z)

  held : get_or tree p 0 < 1024 → first ≡ get_or tree p 0
  held h = let b = t.before p place h in omega arith

  new : 1024 ≤ get_or tree p 0 → first ≡ r
  new h = omega arith

  kept : Kept tree (set tree p first)
  kept = at_each (λ q y. get_or tree q 0 < 1024 → y ≡ get_or tree q 0) held (λ q z h. refl)

  pub tree_next : Tree hash m (r + 1) (set tree p first)
  tree_next =
      record {
        long = rw length-set t.long;
        within = at_each (λ q y. q < 4087 → y ≤ 1024) (λ h. omega arith) (λ q z h. t.within q h);
        before = at_each (λ q y. q < 4087 → y < 1024 → y < r + 1) (λ h i. omega arith) (λ q z h i. let b = t.before q h i in omega arith);
        after = λ j x h. at_each (λ q y. q ≡ below j x → j < y) (own j x h) (λ q z i. rw i (t.after j x h)) (below j x) refl;
        each = below_more _ r (λ k h. met_kept kept (t.each k h)) (s.lands (set tree p first) kept (rw here row) (rw here value));
      }
    where
      row : first < 1024
      row = omega arith

      own : (j x : ℕ) → j < 1024 → p ≡ below j x → j < first
      own j x h i = let a : j < get_or tree p 0 = rw i (t.after j x h) in omega (arith, s.inside)

      value : m first ≡ m r
      value = go (ltb (get_or tree p 0) 1024) refl
        where
          go : (b : Bool) → ltb (get_or tree p 0) 1024 ≡ b → m first ≡ m r
          go true i = let h = ltb-true (get_or tree p 0) 1024 i in ap m (held h) ∙ s.has h
          go false i = ap m (new (ltb-false (get_or tree p 0) 1024 i))

  -- the class of row r, from an earlier row with its value where there is one
  pub class_chosen : {f : ℕ → ℕ} {classes : List ℕ} (own c : ℕ) → FirstValues f r classes
      → ((k : ℕ) → k < r → m k ≡ m r → f k ≡ f r) → (((k : ℕ) → k < r → m k ≡ m r → ⊥) → own ≡ f r)
      → c ≡ cond (ltb (get_or tree p 0) 1024) (get_or classes (get_or tree p 0) 0) own → c ≡ f r
  class_chosen {f} {classes} own c x same alone i =
      i ∙ cond_if (λ (y : ℕ). y ≡ f r) (ltb j 1024) (get_or classes j 0) own found (λ b. alone (s.none (ltb-false j 1024 b)))
    where
      j : ℕ
      j = get_or tree p 0

      found : ltb j 1024 ≡ true → get_or classes j 0 ≡ f r
      found b =
          let h = ltb-true j 1024 b in
          let q = t.before p place h in
          x.are j q ∙ same j q (s.has h)
