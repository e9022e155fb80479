-- The ways out of the look-ups and of clearing. Assumes nothing.
use Prim.Native.Nat.{ℕ, zero, suc, ◌+◌, ◌-◌, ◌*◌, ◌≤◌, ◌<◌}
use mathlib.Core.Path.{◌≡◌, refl, ◌∙◌, subst}
use mathlib.Core.Bool.{Bool, true, false}
use mathlib.Core.List.{List}
use native.Mathlib.Omega.{arith}
use lib.Dec.{eqb, ltb}
use lib.ListN.{length, get_or, set, length-set}
use lib.Seq.{get_or-set_same, get_or-set_other}
use borrow.Author.Tests.{eqb-true, eqb-false, ltb-true, ltb-false}
use Rattle.form_slots.specs.declared.Parts.{Parts}
use Rattle.form_slots.specs.Slots.{marked, numbered, number_in, parts_at, Low, PartsFit, Cleared, Numbered, Trail, region, slot_count, low_names}
use Rattle.classes.specs.Search.{class_at}
use Rattle.token.specs.Tokens.{qname_width, name_rows}
use Rattle.machine.specs.Tables.{class_count}

pub slot_number : (slots : List ℕ) (base class : ℕ) {r : ℕ} → (class ≡ 0 → ⊥) → r ≡ get_or slots (base + class) 0 → r ≡ number_in slots base class
slot_number slots base zero n e = absurd (n refl)
slot_number slots base (suc k) n e = e

-- the class of a qname is a row, and never 0
pub row_number : (slots : List ℕ) (base class : ℕ) {r : ℕ} → 1 ≤ class → r ≡ get_or slots (base + class) 0 → r ≡ number_in slots base class
row_number slots base class from e = slot_number slots base class (λ z. omega arith) e

pub parts_is : (qnames classes : List ℕ) (k : ℕ) {x y z u v w : ℕ} → x ≡ get_or qnames (qname_width * k) 0 → y ≡ get_or qnames (qname_width * k + 1) 0 → z ≡ get_or qnames (qname_width * k + 2) 0
    → u ≡ class_at classes x → v ≡ class_at classes y → w ≡ class_at classes z → record { uri = record { 0 = u }; prefix = record { 0 = v }; local = record { 0 = w } } ≡ parts_at qnames classes k
parts_is qnames classes k a b c d e f = rw (d, e, f, a, b, c)

pub marked_is : (slots : List ℕ) (base class : ℕ)
    → set (set (numbered slots base class) (base + class_count) class) ((base + class_count) + class) (get_or slots (base + class_count) 0) ≡ marked slots base class
unfolding marked
marked_is slots base class = refl

pub low_more : {m n : ℕ} {slots : List ℕ} → m ≤ n → Low m slots → Low n slots
low_more h l = record { long = l.long; each = λ k. let i = l.each k in omega arith }

pub parts_more : {m n : ℕ} {q : Parts} → m ≤ n → PartsFit m q → PartsFit n q
parts_more h f =
    let u = f.uri_in in
    let v = f.prefix_in in
    let w = f.local_in_fact in
    record { uri_in = omega arith; prefix_in = omega arith; local_in_fact = omega arith }

pub number_low : (most : ℕ) (slots : List ℕ) (base class : ℕ) → Low most slots → number_in slots base class ≤ most
number_low most slots base zero l = omega arith
number_low most slots base (suc k) l = l.each (base + suc k)

-- ---- clearing

-- the trail is followed down to number n: classes with higher numbers are cleared, and the next one has number n
pub record Clearing (before after : List ℕ) (base n class : ℕ) : Type 0 where
  pub long : length after ≡ length before
  pub next : 1 ≤ n → Numbered before base class n
  pub low : (d : ℕ) → 1 ≤ d → d ≤ name_rows → get_or before (base + d) 0 ≤ n → get_or after (base + d) 0 ≡ get_or before (base + d) 0
  pub high : (d : ℕ) → 1 ≤ d → d ≤ name_rows → n < get_or before (base + d) 0 → get_or after (base + d) 0 ≡ 0
  pub under : (k : ℕ) → k < base → get_or after k 0 ≡ get_or before k 0
  pub over : (k : ℕ) → base + class_count ≤ k → get_or after k 0 ≡ get_or before k 0

pub clear_first : (l : List ℕ) (base : ℕ) → Trail l base → Clearing l l base (get_or l base 0) (get_or l (base + class_count) 0)
clear_first l base x =
    record {
      long = refl;
      next = x.last;
      low = λ d a b h. refl;
      high = λ d a b h. absurd (let i = x.most d a b in let q : ⊥ = omega arith in q);
      under = λ k a. refl;
      over = λ k a. refl;
    }

-- the class that is cleared next is in the region
pub next_in : {b a : List ℕ} {base n class : ℕ} → Clearing b a base n class → 0 < n → class ≤ name_rows
next_in x h = (x.next h).to

-- the one defined before it is as it was
pub previous_is : {b a : List ℕ} {base n class : ℕ} → Clearing b a base n class → 0 < n
    → get_or (set a (base + class) 0) ((base + class_count) + class) 0 ≡ get_or b ((base + class_count) + class) 0
previous_is {b} {a} {base} {n} {class} x h =
    let to = next_in x h in
    get_or-set_other a (base + class) ((base + class_count) + class) 0 0 (λ z. omega (arith, to)) ∙ x.over ((base + class_count) + class) (omega arith)

module _ {b a : List ℕ} {base n class : ℕ} (room : base + region ≤ slot_count) (low : Low low_names b) (t : Trail b base) (x : Clearing b a base n class) (h : 0 < n) where
  pub clear_more : Clearing b (set a (base + class) 0) base (n - 1) (get_or (set a (base + class) 0) ((base + class_count) + class) 0)
  clear_more =
      record {
        long = length-set a (base + class) 0 ∙ x.long;
        next = λ i. rw (previous_is x h) (t.previous class (n - 1) i (subst (λ (m : ℕ). Numbered b base class m) (let e : n ≡ suc (n - 1) = omega arith in e) (x.next h)));
        low = λ d i j l. outside (base + d) (λ z. let e : d ≡ class = omega arith in not_it d e l) ∙ x.low d i j (omega arith);
        high = λ d i j l. cleared d i j l (eqb d class) refl;
        under = λ k i. outside k (λ z. omega arith) ∙ x.under k i;
        over = λ k i. outside k (λ z. omega (arith, to)) ∙ x.over k i;
      }
    where
      to : class ≤ name_rows
      to = next_in x h

      outside : (k : ℕ) → (k ≡ base + class → ⊥) → get_or (set a (base + class) 0) k 0 ≡ get_or a k 0
      outside k z = get_or-set_other a (base + class) k 0 0 z

      -- it has number n
      not_it : (d : ℕ) → d ≡ class → get_or b (base + d) 0 ≤ n - 1 → ⊥
      not_it d e l = let i = (x.next h).number in let l' : get_or b (base + class) 0 ≤ n - 1 = rw e at l in omega (arith, i, l', h)

      -- no other has
      is_it : (d : ℕ) → 1 ≤ d → d ≤ name_rows → get_or b (base + d) 0 ≡ n → d ≡ class
      is_it d i j e = t.one d class n h (record { from = i; to = j; number = e }) (x.next h)

      cleared : (d : ℕ) → 1 ≤ d → d ≤ name_rows → n - 1 < get_or b (base + d) 0 → (s : Bool) → eqb d class ≡ s → get_or (set a (base + class) 0) (base + d) 0 ≡ 0
      cleared d i j l true e =
          let m : base + class < length a = let g = x.long in let l = low.long in omega (arith, g, l, to, room) in
          rw (eqb-true d class e) (get_or-set_same a (base + class) 0 0 m)
      cleared d i j l false e =
          let z = eqb-false d class e in
          let y : n < get_or b (base + d) 0 = higher (get_or b (base + d) 0) (λ w. z (is_it d i j w)) l in
          outside (base + d) (λ w. z (let v : d ≡ class = omega arith in v)) ∙ x.high d i j y
        where
          higher : (m : ℕ) → (m ≡ n → ⊥) → n - 1 < m → n < m
          higher m z l = omega arith

-- the same, as the loop counts the turns
pub clear_start : (l : List ℕ) (base : ℕ) → Trail l base → Clearing l l base (get_or l base 0 - 0) (get_or l (base + class_count) 0)
clear_start l base x = let e : get_or l base 0 - 0 ≡ get_or l base 0 = omega arith in rw e (clear_first l base x)

pub clear_next : {b a : List ℕ} {base class : ℕ} (count i : ℕ) → base + region ≤ slot_count → Low low_names b → Trail b base → Clearing b a base (count - i) class → i < count
    → Clearing b (set a (base + class) 0) base (count - (i + 1)) (get_or (set a (base + class) 0) ((base + class_count) + class) 0)
clear_next count i room low t x h =
    let e : count - (i + 1) ≡ (count - i) - 1 = omega arith in
    rw e (clear_more room low t x (omega arith))

pub clear_all : {b a : List ℕ} {base n class : ℕ} → base + region ≤ slot_count → Low low_names b → Clearing b a base n class → n ≤ 0 → Cleared b (set a base 0) base
clear_all {b} {a} {base} {n} room low x h =
    record {
      long = length-set a base 0 ∙ x.long;
      inside = λ k i j. here k i j (eqb k base) refl;
      under = λ k i. get_or-set_other a base k 0 0 (λ z. omega arith) ∙ x.under k i;
      over = λ k i. get_or-set_other a base k 0 0 (λ z. omega arith) ∙ x.over k i;
    }
  where
    class_cleared : (d : ℕ) → 1 ≤ d → d ≤ name_rows → (s : Bool) → ltb 0 (get_or b (base + d) 0) ≡ s → get_or a (base + d) 0 ≡ 0
    class_cleared d i j true e = let g : 0 < get_or b (base + d) 0 = ltb-true _ _ e in x.high d i j (omega arith)
    class_cleared d i j false e =
        let g : get_or b (base + d) 0 ≤ 0 = ltb-false _ _ e in
        x.low d i j (omega arith) ∙ (let z : get_or b (base + d) 0 ≡ 0 = omega arith in z)

    here : (k : ℕ) → base ≤ k → k < base + class_count → (s : Bool) → eqb k base ≡ s → get_or (set a base 0) k 0 ≡ 0
    here k i j true e = let l = x.long in let g = low.long in rw (eqb-true k base e) (get_or-set_same a base 0 0 (omega (arith, l, g, room)))
    here k i j false e =
        let z = eqb-false k base e in
        let p : base + (k - base) ≡ k = omega arith in
        let d = class_cleared (k - base) (let y : 1 ≤ k - base = omega arith in y) (omega arith) (ltb 0 (get_or b (base + (k - base)) 0)) refl in
        get_or-set_other a base k 0 0 z ∙ (rw p at d)
