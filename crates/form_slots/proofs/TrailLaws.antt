-- The trail of a region is kept by marking a new class there, by clearing, and by whatever leaves the region alone. Assumes nothing.
use Prim.Native.Nat.{ℕ, suc, ◌+◌, ◌*◌, ◌≤◌, ◌<◌}
use mathlib.Core.Path.{◌≡◌, refl, sym, ◌∙◌, subst}
use mathlib.Core.Bool.{Bool, true, false}
use mathlib.Core.List.{List}
use native.Mathlib.Omega.{arith}
use lib.Dec.{eqb, ltb}
use lib.ListN.{length, get_or, set, length-set}
use lib.Seq.{get_or-set_same, get_or-set_other}
use borrow.Author.Tests.{eqb-true, eqb-false, ltb-true, ltb-false}
use Rattle.form_slots.specs.Slots.{marked, numbered, Numbered, Trail, Trails, Cleared, region}
use Rattle.token.specs.Tokens.{name_rows}
use Rattle.machine.specs.Tables.{class_count}

-- ---- marking

-- the other cells stay
pub marked_other : (slots : List ℕ) (base class k : ℕ) → (k ≡ base → ⊥) → (k ≡ base + class → ⊥) → (k ≡ base + class_count → ⊥) → (k ≡ (base + class_count) + class → ⊥)
    → get_or (marked slots base class) k 0 ≡ get_or slots k 0
unfolding marked
marked_other slots base class k a b c d =
    let n : ℕ = get_or slots base 0 + 1 in
    get_or-set_other (set (numbered slots base class) (base + class_count) class) ((base + class_count) + class) k (get_or slots (base + class_count) 0) 0 d
    ∙ get_or-set_other (numbered slots base class) (base + class_count) k class 0 c
    ∙ get_or-set_other (set slots base n) (base + class) k n 0 b
    ∙ get_or-set_other slots base k n 0 a

module _ (slots : List ℕ) (base class : ℕ) (from : 1 ≤ class) (to : class ≤ name_rows) (room : base + region ≤ length slots) where
  abbrev count : ℕ
  count = get_or slots base 0 + 1

  abbrev head : ℕ
  head = get_or slots (base + class_count) 0

  abbrev one : List ℕ
  one = set slots base count

  abbrev two : List ℕ
  two = set one (base + class) count

  abbrev three : List ℕ
  three = set two (base + class_count) class

  pub marked_count : get_or (marked slots base class) base 0 ≡ count
  unfolding marked
  marked_count =
      get_or-set_other three ((base + class_count) + class) base head 0 (λ z. omega arith) ∙ get_or-set_other two (base + class_count) base class 0 (λ z. omega arith)
      ∙ get_or-set_other one (base + class) base count 0 (λ z. omega arith)
      ∙ get_or-set_same slots base count 0 (omega arith)

  pub marked_number : get_or (marked slots base class) (base + class) 0 ≡ count
  unfolding marked
  marked_number =
      get_or-set_other three ((base + class_count) + class) (base + class) head 0 (λ z. omega arith)
      ∙ get_or-set_other two (base + class_count) (base + class) class 0 (λ z. omega arith)
      ∙ get_or-set_same one (base + class) count 0 (rw length-set (omega arith))

  pub marked_last : get_or (marked slots base class) (base + class_count) 0 ≡ class
  unfolding marked
  marked_last =
      get_or-set_other three ((base + class_count) + class) (base + class_count) head 0 (λ z. omega arith)
      ∙ get_or-set_same two (base + class_count) class 0 (rw (length-set, length-set) (omega arith))

  pub marked_previous : get_or (marked slots base class) ((base + class_count) + class) 0 ≡ head
  unfolding marked
  marked_previous = get_or-set_same three ((base + class_count) + class) head 0 (rw (length-set, length-set, length-set) (omega arith))

  abbrev after : List ℕ
  after = marked slots base class

  module _ (x : Trail slots base) (new : get_or slots (base + class) 0 ≡ 0) where
    other_number : (d : ℕ) → 1 ≤ d → d ≤ name_rows → (d ≡ class → ⊥) → get_or after (base + d) 0 ≡ get_or slots (base + d) 0
    other_number d a b n = marked_other slots base class (base + d) (λ z. omega arith) (λ z. n (omega arith)) (λ z. omega arith) (λ z. omega arith)

    stays : {d n : ℕ} → (d ≡ class → ⊥) → Numbered slots base d n → Numbered after base d n
    stays {d} n y = record { from = y.from; to = y.to; number = other_number d y.from y.to n ∙ y.number }

    stood : {d n : ℕ} → (d ≡ class → ⊥) → Numbered after base d n → Numbered slots base d n
    stood {d} n y = record { from = y.from; to = y.to; number = sym (other_number d y.from y.to n) ∙ y.number }

    -- a class with a number is not the new one
    not_new : {d n : ℕ} → 1 ≤ n → Numbered slots base d n → d ≡ class → ⊥
    not_new {d} {n} h y e = let i : get_or slots (base + class) 0 ≡ n = rw e at y.number in omega (arith, i, new, h)

    -- the new class has the next number
    next : {n : ℕ} → Numbered after base class n → n ≡ count
    next y = sym y.number ∙ marked_number

    -- the number of another class is not the next one
    under_next : {d n : ℕ} → Numbered slots base d n → n < count
    under_next {d} y = let h = x.most d y.from y.to in let i = y.number in omega (arith, h, i)

    most_kept : (d : ℕ) → 1 ≤ d → d ≤ name_rows → (t : Bool) → eqb d class ≡ t → get_or after (base + d) 0 ≤ get_or after base 0
    most_kept d a b true e = rw (eqb-true d class e, marked_number, marked_count) (omega arith)
    most_kept d a b false e =
        let h = x.most d a b in
        rw (other_number d a b (eqb-false d class e), marked_count) (omega arith)

    previous_kept : (d n : ℕ) → 1 ≤ n → Numbered after base d (suc n) → (t : Bool) → eqb d class ≡ t → Numbered after base (get_or after ((base + class_count) + d) 0) n
    previous_kept d n h y true e =
        let i = eqb-true d class e in
        let j = next (subst (λ (c : ℕ). Numbered after base c (suc n)) i y) in
        let k : get_or slots base 0 ≡ n = omega (arith, j) in
        let l : Numbered slots base head n = subst (λ (m : ℕ). Numbered slots base head m) k (x.last (omega (arith, k, h))) in
        rw (i, marked_previous) (stays (not_new h l) l)
    previous_kept d n h y false e =
        let i = eqb-false d class e in
        let l = x.previous d n h (stood i y) in
        let a = y.from in
        let b = y.to in
        let j = marked_other slots base class ((base + class_count) + d) (λ z. omega arith) (λ z. omega arith) (λ z. omega arith) (λ z. i (omega arith)) in
        rw j (stays (not_new h l) l)

    one_kept : (d o n : ℕ) → 1 ≤ n → Numbered after base d n → Numbered after base o n → (t u : Bool) → eqb d class ≡ t → eqb o class ≡ u → d ≡ o
    one_kept d o n h y z true true e f = eqb-true d class e ∙ sym (eqb-true o class f)
    one_kept d o n h y z true false e f =
        let i = next (subst (λ (c : ℕ). Numbered after base c n) (eqb-true d class e) y) in
        let j = under_next (stood (eqb-false o class f) z) in
        absurd (let q : ⊥ = omega (arith, i, j) in q)
    one_kept d o n h y z false true e f =
        let i = next (subst (λ (c : ℕ). Numbered after base c n) (eqb-true o class f) z) in
        let j = under_next (stood (eqb-false d class e) y) in
        absurd (let q : ⊥ = omega (arith, i, j) in q)
    one_kept d o n h y z false false e f = x.one d o n h (stood (eqb-false d class e) y) (stood (eqb-false o class f) z)

    pub trail_marked : Trail after base
    trail_marked =
        record {
          most = λ d a b. most_kept d a b (eqb d class) refl;
          last = λ h. rw (marked_last, marked_count) (record { from = from; to = to; number = marked_number });
          previous = λ d n h y. previous_kept d n h y (eqb d class) refl;
          one = λ d o n h y z. one_kept d o n h y z (eqb d class) (eqb o class) refl refl;
        }

-- ---- a region that is left alone

module _ {slots slots' : List ℕ} {base : ℕ} (same : (k : ℕ) → base ≤ k → k < base + region → get_or slots' k 0 ≡ get_or slots k 0) where
  forth : {d n : ℕ} → Numbered slots base d n → Numbered slots' base d n
  forth {d} y = let b = y.to in record { from = y.from; to = y.to; number = same (base + d) (omega arith) (omega arith) ∙ y.number }

  back : {d n : ℕ} → Numbered slots' base d n → Numbered slots base d n
  back {d} y = let b = y.to in record { from = y.from; to = y.to; number = sym (same (base + d) (omega arith) (omega arith)) ∙ y.number }

  pub trail_alone : Trail slots base → Trail slots' base
  trail_alone x =
      let c = same base (omega arith) (omega arith) in
      let l = same (base + class_count) (omega arith) (omega arith) in
      record {
        most = λ d a b. let h = x.most d a b in let i = same (base + d) (omega arith) (omega arith) in omega (arith, h, i, c);
        last = λ h. rw (c, l) (forth (x.last (omega (arith, h, c))));
        previous = λ d n h y. let b = y.to in rw (same ((base + class_count) + d) (omega arith) (omega arith)) (forth (x.previous d n h (back y)));
        one = λ d o n h y z. x.one d o n h (back y) (back z);
      }

-- ---- a region that is cleared

-- where nothing is defined
pub trail_none : {slots : List ℕ} {base : ℕ} → ((k : ℕ) → base ≤ k → k < base + class_count → get_or slots k 0 ≡ 0) → Trail slots base
trail_none {slots} {base} none =
    record {
      most = λ d a b. let i = none (base + d) (omega arith) (omega arith) in omega (arith, i);
      last = λ h. absurd (let i = none base (omega arith) (omega arith) in let q : ⊥ = omega (arith, i, h) in q);
      previous = λ d n h y. absurd (unnumbered (omega arith) y);
      one = λ d o n h y z. absurd (unnumbered h y);
    }
  where
    unnumbered : {d n : ℕ} → 1 ≤ n → Numbered slots base d n → ⊥
    unnumbered {d} h y =
        let a = y.from in
        let b = y.to in
        let i = none (base + d) (omega arith) (omega arith) in
        let j = y.number in
        omega (arith, i, j, h)

-- ---- all regions

module _ {slots : List ℕ} (x : Trails slots) (d : ℕ) where
  pub trails_marked : (class : ℕ) → 1 ≤ class → class ≤ name_rows → region * d + region ≤ length slots → get_or slots (region * d + class) 0 ≡ 0 → Trails (marked slots (region * d) class)
  trails_marked class from to room new e few = go (eqb e d) refl
    where
      go : (t : Bool) → eqb e d ≡ t → Trail (marked slots (region * d) class) (region * e)
      go true i = rw (eqb-true e d i) (trail_marked slots (region * d) class from to room (rw (eqb-true e d i) at (x e few)) new)
      go false i =
          let z = eqb-false e d i in
          trail_alone (λ k a b. marked_other slots (region * d) class k (λ w. z (omega arith)) (λ w. z (omega arith)) (λ w. z (omega arith)) (λ w. z (omega arith))) (x e few)

  pub trails_cleared : {slots' : List ℕ} → Cleared slots slots' (region * d) → Trails slots'
  trails_cleared {slots'} y e few = go (eqb e d) (ltb e d) refl refl
    where
      go : (t u : Bool) → eqb e d ≡ t → ltb e d ≡ u → Trail slots' (region * e)
      go true u i j = rw (eqb-true e d i) (trail_none y.inside)
      go false true i j = let l = ltb-true e d j in trail_alone (λ k a b. y.under k (omega arith)) (x e few)
      go false false i j =
          let l = ltb-false e d j in
          let z = eqb-false e d i in
          let m : d < e = omega arith in
          trail_alone (λ k a b. y.over k (omega arith)) (x e few)
