-- Bytes put before a place: none, one more, and those of two calls. Assumes nothing.
use Prim.Native.Nat.{ℕ, zero, suc, ◌+◌, ◌-◌, ◌^◌, ◌≤◌, ◌<◌}
use mathlib.Core.Path.{◌≡◌, refl, sym, ap, ◌∙◌}
use mathlib.Core.List.{List, [], ◌∷◌, ◌++◌, append_assoc, append-nil}
use native.Mathlib.Omega.{arith}
use lib.ListN.{length, take, drop, set, length-set, length-append, take-append-drop, drop_of_length-le}
use lib.Dec.{lit≤}
use Rattle.numeral.specs.Numeral.{digits}
use Rattle.numeral.proofs.Facts.{digits_length}
use Rattle.print_lines.specs.Lines.{PutBefore, field, line}

drop_set : (l : List ℕ) (i x : ℕ) → i < length l → drop i (set l i x) ≡ x ∷ drop (suc i) l
drop_set [] i x h = absurd (let q : ⊥ = omega arith in q)
drop_set (y ∷ l) zero x h = refl
drop_set (y ∷ l) (suc i) x h = drop_set l i x (omega arith)

-- what stands before a place that is set, and before an earlier place
take_set : (l : List ℕ) (i x : ℕ) → take i (set l i x) ≡ take i l
take_set [] i x = refl
take_set (y ∷ l) zero x = refl
take_set (y ∷ l) (suc i) x = ap (λ (t : List ℕ). y ∷ t) (take_set l i x)

take_less : (l m : List ℕ) (j i : ℕ) → j ≤ i → take i l ≡ take i m → take j l ≡ take j m
take_less l m zero i h e = refl
take_less l m (suc j) zero h e = absurd (let q : ⊥ = omega arith in q)
take_less [] [] (suc j) (suc i) h e = refl
take_less [] (y ∷ m) (suc j) (suc i) h e = absurd (let z : ◌≡◌ {A = ℕ} 0 1 = cc in let q : ⊥ = omega arith in q)
take_less (x ∷ l) [] (suc j) (suc i) h e = absurd (let z : ◌≡◌ {A = ℕ} 0 1 = cc in let q : ⊥ = omega arith in q)
take_less (x ∷ l) (y ∷ m) (suc j) (suc i) h e =
    let a : x ≡ y = cc in
    let t : take i l ≡ take i m = cc in
    let r : take j l ≡ take j m = take_less l m j i (omega arith) t in
    cc

pub none_put : (text : List ℕ) (end : ℕ) → PutBefore text text end end []
none_put text end = record { there = refl; front = refl; place = omega arith; long = refl }

module _ {before after bytes : List ℕ} {end at : ℕ} (p : PutBefore before after end at bytes) where
  pub one_put : (b : ℕ) → 1 ≤ at → end ≤ length before → PutBefore before (set after (at - 1) b) end (at - 1) (b ∷ bytes)
  one_put b h e =
      let q = p.place in
      let s = p.long in
      let l : at - 1 < length after = omega arith in
      let y : suc (at - 1) ≡ at = omega arith in
      record {
        there = drop_set after (at - 1) b l ∙ rw (y, p.there);
        front = take_set after (at - 1) b ∙ take_less after before (at - 1) at (omega arith) p.front;
        place = omega arith;
        long = simp length-set s;
      }

  pub both_put : {last more : List ℕ} {from : ℕ} → PutBefore after last at from more → PutBefore before last end from (more ++ bytes)
  both_put {more = more} {from = from} m =
      let q = p.place in
      let r = m.place in
      record {
        there = m.there ∙ rw p.there (sym (append_assoc more bytes (drop end before)));
        front = m.front ∙ take_less after before from at (omega arith) p.front;
        place = simp length-append (omega arith);
        long = m.long ∙ p.long;
      }

-- bytes put before the end of an array: the whole array afterwards
pub whole_put : {before after bytes text : List ℕ} {at end : ℕ} → length before ≡ end → PutBefore before after end at bytes → bytes ≡ text
    → after ≡ take at before ++ text
whole_put {before} {after} {bytes} {at = at} {end} w p e =
    let l : length before ≤ end = omega arith in
    let d : drop end before ≡ [] = drop_of_length-le before l in
    let f : drop at after ≡ bytes = p.there ∙ rw d (append-nil bytes) in
    sym (take-append-drop at after) ∙ rw (p.front, f ∙ e)

-- ---- room

-- room for some bytes is room for those after the first of them
pub shorter : (xs ys : List ℕ) (n : ℕ) → length (xs ++ ys) ≤ n → length ys ≤ n
shorter xs ys n h = let e = length-append xs ys in omega arith

-- the room that is left for bytes before those that are put
pub left : (rest : List ℕ) {before after bytes : List ℕ} {end at : ℕ} → PutBefore before after end at bytes → length (rest ++ bytes) ≤ end
    → end ≤ length before → (length rest ≤ at) × (at ≤ length after)
left rest {bytes = bytes} p h i =
    let e = length-append rest bytes in
    let q = p.place in
    let l = p.long in
    (omega arith, omega arith)

-- digits of numbers of 32 and of 64 bits
pub short_digits : (n : ℕ) → n < 4294967296 → length (digits n) ≤ 10
short_digits n h = let p : 4294967296 ≤ 10 ^ 10 = lit≤ tt in digits_length 9 n (omega (arith, p))

pub long_digits : (n : ℕ) → n < 18446744073709551616 → length (digits n) ≤ 20
long_digits n h = let p : 18446744073709551616 ≤ 10 ^ 20 = lit≤ tt in digits_length 19 n (omega (arith, p))

-- ---- one line

pub line_length : (first : List ℕ) (a : ℕ) (second : List ℕ) (b : ℕ)
    → length (line first a second b) ≡ length first + (length (digits a) + (length second + (length (digits b) + 1)))
line_length first a second b = simp length-append (omega arith)

pub line_put : (first : List ℕ) (a : ℕ) (second : List ℕ) (b : ℕ) {t t₁ t₂ t₃ : List ℕ} {end a₁ a₂ a₃ : ℕ}
    → PutBefore t t₁ end a₁ (0x0A ∷ []) → PutBefore t₁ t₂ a₁ a₂ (field second b) → PutBefore t₂ t₃ a₂ a₃ (field first a)
    → PutBefore t t₃ end a₃ (line first a second b)
line_put first a second b p q r = both_put (both_put p q) r
