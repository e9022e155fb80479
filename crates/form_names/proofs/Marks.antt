-- A region of slots says which elements a document has defined, and under which numbers. Assumes nothing.
use Prim.Native.Nat.{ℕ, suc, ◌+◌, ◌≤◌, ◌<◌}
use mathlib.Core.Path.{◌≡◌, refl, sym, ◌∙◌, ap}
use mathlib.Core.Logic.{◌⊎◌, inl, inr}
use mathlib.Core.Bool.{Bool, true, false, cond}
use mathlib.Core.Option.{some}
use mathlib.Core.List.{List, [], ◌∷◌, ◌++◌}
use native.Mathlib.Omega.{arith}
use lib.Dec.{eqb, ltb}
use lib.ListN.{length, get_or, set, length-set, length-append}
use lib.Seq.{set_out, get_or-set_same, get_or-set_other}
use borrow.Author.Tests.{ltb-true, ltb-false, eqb-true, eqb-false, ne_eqb}
use Rattle.sequences.proofs.Tests.{cond_if}
use Rattle.form.specs.Canonical.{place, absent}
use Rattle.form.proofs.Places.{Tells, present, place_absent, place_present, place_grows, place_at, place_last, place_other}
use Rattle.form_slots.specs.Slots.{marked, Low, region}
use Rattle.form_slots.proofs.TrailLaws.{marked_count, marked_number, marked_other}
use Rattle.token.specs.Tokens.{name_rows}
use Rattle.machine.specs.Tables.{class_count}

module _ {A : Type 0} (same : A → A → Bool) where
  -- the number of an element among those defined, or 0
  unfoldable pub slot_of : List A → A → ℕ
  slot_of c a = cond (absent same c a) 0 (suc (place same c a))

  -- `T` are the elements of a table, in the order of its rows; the class of one is its first row there
  pub record Marks (T c : List A) (slots : List ℕ) (base : ℕ) : Type 0 where
    pub count : get_or slots base 0 ≡ length c
    pub at : (a : A) → place same T a < length T → get_or slots (base + suc (place same T a)) 0 ≡ slot_of c a

  -- a slot is 0 exactly for what is not defined
  pub slot_new : (c : List A) (a : A) → eqb (slot_of c a) 0 ≡ absent same c a
  unfolding slot_of
  slot_new c a = go (absent same c a)
    where
      go : (b : Bool) → eqb (cond b 0 (suc (place same c a))) 0 ≡ b
      go true = refl
      go false = ne_eqb (suc (place same c a)) 0 (λ z. omega arith)

  pub slot_defined : (c : List A) (a : A) → place same c a < length c → slot_of c a ≡ suc (place same c a)
  unfolding slot_of
  slot_defined c a h = rw (place_present same c a h)

  pub slot_low : (c : List A) (a : A) → slot_of c a ≤ length c
  unfolding slot_of
  slot_low c a = cond_if (λ (n : ℕ). n ≤ length c) (absent same c a) 0 (suc (place same c a)) (λ e. omega arith) (λ e. present same c a e)

  module _ (tells : Tells same) where
    -- one row, one element
    same_row : (T : List A) (a b : A) → place same T a < length T → place same T b ≡ place same T a → b ≡ a
    same_row T a b h e =
        let i : place same T b < length T = omega arith in
        let p : some b ≡ some a = sym (place_at same tells T b i) ∙ rw e (place_at same tells T a h) in
        cc

    -- the slot of another element stays
    slot_other : (c : List A) (a b : A) → (a ≡ b → ⊥) → slot_of (c ++ (a ∷ [])) b ≡ slot_of c b
    unfolding slot_of
    slot_other c a b n = go (absent same c b) refl
      where
        longer : length (c ++ (a ∷ [])) ≡ suc (length c)
        longer = rw length-append (omega arith)

        go : (t : Bool) → absent same c b ≡ t → cond (absent same (c ++ (a ∷ [])) b) 0 (suc (place same (c ++ (a ∷ [])) b)) ≡ cond t 0 (suc (place same c b))
        go true e =
            let p : place same (c ++ (a ∷ [])) b ≡ length (c ++ (a ∷ [])) = place_other same tells c a b e n ∙ sym longer in
            rw (place_absent same (c ++ (a ∷ [])) b p)
        go false e =
            let h = present same c b e in
            let p = place_grows same c (a ∷ []) b h in
            let q : absent same (c ++ (a ∷ [])) b ≡ false = place_present same (c ++ (a ∷ [])) b (omega (arith, longer, h, p)) in
            rw (q, p)

    slot_last : (c : List A) (a : A) → absent same c a ≡ true → slot_of (c ++ (a ∷ [])) a ≡ suc (length c)
    slot_last c a e =
        let l : length (c ++ (a ∷ [])) ≡ suc (length c) = rw length-append (omega arith) in
        let p = place_last same tells c a e in
        slot_defined (c ++ (a ∷ [])) a (omega arith) ∙ ap suc p

    -- an element that is not yet defined gets the next number
    pub marks_more : (T c : List A) (slots : List ℕ) (base : ℕ) (a : A) → base + region ≤ length slots → length T ≤ name_rows → place same T a < length T
        → absent same c a ≡ true → Marks T c slots base → Marks T (c ++ (a ∷ [])) (marked slots base (suc (place same T a))) base
    marks_more T c slots base a room few h e m = record { count = counted; at = each }
      where
        counted : get_or (marked slots base (suc (place same T a))) base 0 ≡ length (c ++ (a ∷ []))
        counted =
            marked_count slots base (suc (place same T a)) (omega arith) (omega arith) room ∙ (let i = m.count in rw length-append (omega arith))

        each : (b : A) → place same T b < length T → get_or (marked slots base (suc (place same T a))) (base + suc (place same T b)) 0 ≡ slot_of (c ++ (a ∷ [])) b
        each b l = go (eqb (place same T b) (place same T a)) refl
          where
            go : (t : Bool) → eqb (place same T b) (place same T a) ≡ t
                → get_or (marked slots base (suc (place same T a))) (base + suc (place same T b)) 0 ≡ slot_of (c ++ (a ∷ [])) b
            go true i =
                let p = eqb-true (place same T b) (place same T a) i in
                let j : b ≡ a = same_row T a b h p in
                let n = m.count in
                rw (j, marked_number slots base (suc (place same T a)) (omega arith) (omega arith) room, slot_last c a e) (omega arith)
            go false i =
                let p = eqb-false (place same T b) (place same T a) i in
                marked_other slots base (suc (place same T a)) (base + suc (place same T b)) (λ z. omega arith) (λ z. p (omega arith)) (λ z. omega arith) (λ z. omega arith)
                ∙ m.at b l ∙ sym (slot_other c a b (λ z. p (rw z)))

-- ---- other regions

-- two arrays agree before a place
pub record Agree (n : ℕ) (before after : List ℕ) : Type 0 where
  pub each : (k : ℕ) → k < n → get_or after k 0 ≡ get_or before k 0

pub agree_same : (n : ℕ) (l : List ℕ) → Agree n l l
agree_same n l = record { each = λ k h. refl }

pub agree_then : {n : ℕ} {a b c : List ℕ} → Agree n a b → Agree n b c → Agree n a c
agree_then x y = record { each = λ k h. y.each k h ∙ x.each k h }

-- marking changes nothing before the region
pub marked_agree : (slots : List ℕ) (base class : ℕ) → Agree base slots (marked slots base class)
marked_agree slots base class =
    record { each = λ k h. marked_other slots base class k (λ z. omega arith) (λ z. omega arith) (λ z. omega arith) (λ z. omega arith) }

pub marks_agree : {A : Type 0} (same : A → A → Bool) {T c : List A} {slots slots' : List ℕ} {base n : ℕ} → Agree n slots slots' → length T ≤ 1024
    → base + region ≤ n → Marks same T c slots base → Marks same T c slots' base
marks_agree same {T} g f h m =
    record {
      count = g.each _ (omega arith) ∙ m.count;
      at = λ a l. g.each _ (omega arith) ∙ m.at a l;
    }

-- ---- bounds

pub marked_low : (most : ℕ) (slots : List ℕ) (base class : ℕ) → class ≤ most + 1 → Low most slots → Low (most + 1) (marked slots base class)
unfolding marked
marked_low most slots base class small l = record { long = rw (length-set, length-set, length-set, length-set) l.long; each = at }
  where
    k : ℕ
    k = get_or slots base 0 + 1

    put_low : (m : List ℕ) (i v : ℕ) → v ≤ most + 1 → ((j : ℕ) → get_or m j 0 ≤ most + 1) → (j : ℕ) → get_or (set m i v) j 0 ≤ most + 1
    put_low m i v g h j = go (eqb j i) refl (leb_or (length m) i)
      where
        leb_or : (a b : ℕ) → (a ≤ b) ⊎ (b < a)
        leb_or a b = dec (ltb b a) refl
          where
            dec : (t : Bool) → ltb b a ≡ t → (a ≤ b) ⊎ (b < a)
            dec true e = inr (ltb-true b a e)
            dec false e = inl (ltb-false b a e)

        go : (t : Bool) → eqb j i ≡ t → (length m ≤ i) ⊎ (i < length m) → get_or (set m i v) j 0 ≤ most + 1
        go false e x = rw (get_or-set_other m i j v 0 (eqb-false j i e)) (h j)
        go true e (inl x) = rw (set_out m i v x) (h j)
        go true e (inr x) = rw (eqb-true j i e, get_or-set_same m i v 0 x) g

    k_low : k ≤ most + 1
    k_low = let b = l.each base in omega arith

    one : List ℕ
    one = set slots base k

    three : List ℕ
    three = set (set one (base + class) k) (base + class_count) class

    at : (j : ℕ) → get_or (set three ((base + class_count) + class) (get_or slots (base + class_count) 0)) j 0 ≤ most + 1
    at =
        let h = l.each (base + class_count) in
        put_low three ((base + class_count) + class) (get_or slots (base + class_count) 0) (omega arith)
        (put_low (set one (base + class) k) (base + class_count) class small
        (put_low one (base + class) k k_low (put_low slots base k k_low (λ j. omega (arith, l.each j)))))
