-- Lists: what stands at a place, elements, and that distinct values of some rows are not more than the rows. Assumes nothing.
use Prim.Native.Nat.{ℕ, zero, suc, ◌+◌, ◌≤◌, ◌<◌}
use mathlib.Core.Path.{◌≡◌, refl, sym, ◌∙◌, ap}
use mathlib.Core.Logic.{◌⊎◌, inl, inr}
use mathlib.Core.Option.{Option, some}
use mathlib.Core.List.{List, [], ◌∷◌, ◌++◌, map}
use native.Mathlib.Numerals.{add-one}
use native.Mathlib.Omega.{arith}
use lib.ListN.{length, get_elem?, get_or, drop, length-append}
use lib.Seq.{drop-drop, take-append_seam, drop-append_seam}
use Rattle.sequences.specs.Lists.{part, In, here, there}
use Rattle.sequences.proofs.Members.{in_left}
use Rattle.grammar.specs.Grammar.{Byte}

-- two constructors are never equal
pub clash : {A : Type 0} → ◌≡◌ {A = ℕ} 0 1 → A
clash e = absurd (let q : ⊥ = omega arith in q)

-- ---- what stands at a place

byte_at : (d : List ℕ) (p : ℕ) {b : ℕ} {w : List ℕ} → drop p d ≡ b ∷ w → (p < length d) × (get_or d p 0 ≡ b) × (drop (suc p) d ≡ w)
byte_at [] zero e = clash (cc)
byte_at [] (suc p) e = clash (cc)
byte_at (x ∷ d) zero e = (omega arith, cc, cc)
byte_at (x ∷ d) (suc p) {b} {w} e = let h = byte_at d p {b = b} {w = w} e in (omega (arith, h.0), h.1, h.2)

pub drop_byte : (d : List ℕ) (p : ℕ) {b : ℕ} {w : List ℕ} → drop p d ≡ b ∷ w → Byte d p b × (drop (p + 1) d ≡ w)
drop_byte d p {b} {w} e = let h = byte_at d p {b = b} {w = w} e in (record { inside = h.0; is = h.1 }, rw (add-one p) h.2)

-- some bytes at a place, and what follows them
pub record Piece (d : List ℕ) (p : ℕ) (t w : List ℕ) : Type 0 where
  pub is : part d p (length t) ≡ t
  pub inside : p + length t ≤ length d
  pub after : drop (p + length t) d ≡ w

drop_inside : (d : List ℕ) (p : ℕ) (t w : List ℕ) → p ≤ length d → drop p d ≡ t ++ w → p + length t ≤ length d
drop_inside d zero t w l e = rw (e, length-append) (omega arith)
drop_inside [] (suc p) t w l e = absurd (let q : ⊥ = omega arith in q)
drop_inside (x ∷ d) (suc p) t w l e = let h : p + length t ≤ length d = drop_inside d p t w (omega arith) e in omega arith

pub piece : (d : List ℕ) (p : ℕ) (t w : List ℕ) → p ≤ length d → drop p d ≡ t ++ w → Piece d p t w
piece d p t w l e =
    record {
      is = rw (e, take-append_seam);
      inside = drop_inside d p t w l e;
      after = rw (← drop-drop (length t) p d, e, drop-append_seam);
    }

-- nothing is left at the end alone
pub drop_none : (d : List ℕ) (p : ℕ) → drop p d ≡ [] → length d ≤ p
drop_none [] p e = omega arith
drop_none (x ∷ d) zero e = clash (cc)
drop_none (x ∷ d) (suc p) e = let h = drop_none d p e in omega arith

-- ---- elements

module _ {A : Type 0} where
  pub data Distinct : List A → Type 0 where
    alone : Distinct []
    apart : {x : A} {l : List A} → (In x l → ⊥) → Distinct l → Distinct (x ∷ l)

  pub in_last : (x : A) (a : List A) → In x (a ++ (x ∷ []))
  in_last x [] = here
  in_last x (y ∷ a) = there (in_last x a)

  pub in_snoc : (x : A) (a : List A) (y : A) → In x (a ++ (y ∷ [])) → In x a ⊎ (x ≡ y)
  in_snoc x [] y here = inr refl
  in_snoc x [] y (there m) = elim m [ ]
  in_snoc x (z ∷ a) y here = inl here
  in_snoc x (z ∷ a) y (there m) = more (in_snoc x a y m)
    where
      more : In x a ⊎ (x ≡ y) → In x (z ∷ a) ⊎ (x ≡ y)
      more (inl i) = inl (there i)
      more (inr e) = inr e

  pub distinct_snoc : (a : List A) (y : A) → Distinct a → (In y a → ⊥) → Distinct (a ++ (y ∷ []))
  distinct_snoc [] y k n = apart (λ (m : In y []). elim m [ ]) alone
  distinct_snoc (x ∷ a) y (apart m k) n = apart (λ i. other (in_snoc x a y i)) (distinct_snoc a y k (λ i. n (there i)))
    where
      other : In x a ⊎ (x ≡ y) → ⊥
      other (inl i) = m i
      other (inr e) = n (rw e here)

  -- an element stands at some place
  pub in_place : {x : A} {l : List A} → In x l → (k : ℕ) × (get_elem? l k ≡ some x)
  in_place here = (0, refl)
  in_place (there m) = let h = in_place m in (suc h.0, h.1)

  -- a list without one of its elements
  unfoldable without : {x : A} {l : List A} → In x l → List A
  without (here {l = l}) = l
  without (there {y = y} m) = y ∷ without m

  length_without : {x : A} {l : List A} (m : In x l) → suc (length (without m)) ≡ length l
  unfolding without
  length_without here = refl
  length_without (there m) = ap suc (length_without m)

  still : {x y : A} {l : List A} (m : In x l) → In y l → (x ≡ y → ⊥) → In y (without m)
  unfolding without
  still here here n = absurd (n refl)
  still here (there i) n = i
  still (there m) here n = here
  still (there m) (there i) n = there (still m i n)

-- the element of a list at a number
pub in_get_d : (l : List ℕ) (k : ℕ) → k < length l → In (get_or l k 0) l
in_get_d [] k h = absurd (let q : ⊥ = omega arith in q)
in_get_d (x ∷ l) zero h = here
in_get_d (x ∷ l) (suc k) h = there (in_get_d l k (omega arith))

-- ---- values of rows

-- a value of one of some rows
pub record Has {Value : Type 0} (f : ℕ → Option Value) (rows : List ℕ) (v : Value) : Type 0 where
  pub row : ℕ
  pub among : In row rows
  pub says : f row ≡ some v

module _ {Value : Type 0} (f : ℕ → Option Value) where
  pub has_more : {rows : List ℕ} {v : Value} (more : List ℕ) → Has f rows v → Has f (rows ++ more) v
  has_more more h = record { row = h.row; among = in_left more h.among; says = h.says }

  -- distinct values of some rows are not more than the rows
  pub not_more : (c : List Value) (rows : List ℕ) → Distinct c → ((v : Value) → In v c → Has f rows v) → length c ≤ length rows
  not_more [] rows k s = omega arith
  not_more (x ∷ c) rows (apart n k) s =
      let m = s x here in
      let h = not_more c (without m.among) k (λ y i. rest y i (s y (there i))) in
      omega (arith, length_without m.among)
    where
      rest : (y : Value) → In y c → Has f rows y → Has f (without (s x here).among) y
      rest y i h =
          record {
            row = h.row;
            among = still (s x here).among h.among λ e.
                let j : some x ≡ some y = sym (s x here).says ∙ ap f e ∙ h.says in
                let z : x ≡ y = cc in
                n (rw z i);
            says = h.says;
          }

pub map_snoc : {A B : Type 0} (f : A → B) (l : List A) (x : A) → map f (l ++ (x ∷ [])) ≡ map f l ++ (f x ∷ [])
map_snoc f [] x = refl
map_snoc {B = B} f (y ∷ l) x = ap (λ (r : List B). f y ∷ r) (map_snoc f l x)

-- a value of the list of values is that of the row at the same number
pub map_at : {B : Type 0} (f : ℕ → B) (l : List ℕ) (k : ℕ) (y : B) → get_elem? (map f l) k ≡ some y → (k < length l) × (f (get_or l k 0) ≡ y)
map_at f [] k y e = clash (cc)
map_at f (x ∷ l) zero y e = (omega arith, cc)
map_at f (x ∷ l) (suc k) y e = let h = map_at f l k y e in (omega (arith, h.0), h.1)

pub some_at : {A : Type 0} (l : List A) (k : ℕ) {a : A} → get_elem? l k ≡ some a → get_elem? (map some l) k ≡ some (some a)
some_at [] k e = clash (cc)
some_at (x ∷ l) zero {a} e = ap some e
some_at (x ∷ l) (suc k) {a} e = some_at l k {a = a} e

-- the last of some rows, in every extension of them
pub at_last : {A : Type 0} (l : List A) (x : A) (w : List A) → get_elem? ((l ++ (x ∷ [])) ++ w) (length l) ≡ some x
at_last [] x w = refl
at_last (y ∷ l) x w = at_last l x w
