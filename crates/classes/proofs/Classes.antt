-- Classes: equal classes mean equal texts, and a class's own row has the text of each row of the class. Assumes nothing.
use Prim.Native.Nat.{ℕ, zero, suc, ◌-◌, ◌≤◌, ◌<◌}
use mathlib.Core.Path.{◌≡◌, refl, ap, sym, ◌∙◌}
use mathlib.Core.Logic.{◌⊎◌, inl, inr, ◌↔◌}
use mathlib.Core.Bool.{Bool, true, false}
use mathlib.Core.Option.{some}
use mathlib.Core.List.{List, [], ◌∷◌, map}
use native.Mathlib.Omega.{arith}
use lib.ListN.{length, get_or, get_elem?, length-map}
use Rattle.sequences.specs.Lists.{same}
use Rattle.machine.specs.Machine.{NameRow, QnameRow, name_text}
use Rattle.machine.proofs.Tables.{at_inside, at_get_d, at_some, at_map}
use Rattle.form.specs.Canonical.{Triple, same_triple, place, number_of, qnumber_of}
use Rattle.form.proofs.Places.{Tells, tells_text, tells_triple, place_at, place_found}
use Rattle.classes.specs.Classes.{row_text, texts_of, name_classes, triple_of, triples_of, qname_classes}

-- a test of equality is false of elements that differ
pub apart : {A : Type 0} (same : A → A → Bool) → Tells same → (a b : A) → (a ≡ b → ⊥) → same a b ≡ false
apart {A} same tells a b n = go (same a b) refl
  where
    go : (t : Bool) → same a b ≡ t → t ≡ false
    go false e = refl
    go true e = absurd (n (tells.equal a b e))

-- the place of an element is the first one where the test holds
pub place_is : {A : Type 0} (same : A → A → Bool) (l : List A) (a : A) (p : ℕ) {x : A} → get_elem? l p ≡ some x → same x a ≡ true
    → ((k : ℕ) (y : A) → k < p → get_elem? l k ≡ some y → same y a ≡ false) → place same l a ≡ p
unfolding place
place_is same [] a p e t f = absurd (let z : ◌≡◌ {A = ℕ} 0 1 = cc in let q : ⊥ = omega arith in q)
place_is same (y ∷ l) a zero {x} e t f =
    let i : y ≡ x = cc in
    let h : same y a ≡ true = rw i t in
    rw h
place_is same (y ∷ l) a (suc p) e t f =
    let h : same y a ≡ false = f 0 y (omega arith) refl in
    let r = place_is same l a p e t (λ k z m g. f (suc k) z (omega arith) g) in
    rw h (ap suc r)

-- the place of the value of row r, where no row before it has that value
pub place_own : {A : Type 0} (same : A → A → Bool) → Tells same → (l : List A) (m : ℕ → A) (r : ℕ) → ((k : ℕ) → k ≤ r → get_elem? l k ≡ some (m k))
    → ((k : ℕ) → k < r → m k ≡ m r → ⊥) → place same l (m r) ≡ r
place_own {A} same tells l m r at n = place_is same l (m r) r (at r (omega arith)) (tells.itself (m r)) other
  where
    other : (k : ℕ) (y : A) → k < r → get_elem? l k ≡ some y → same y (m r) ≡ false
    other k y h g =
        let a = at k (omega arith) in
        let i : y ≡ m k = cc in
        rw i (apart same tells (m k) (m r) (n k h))

-- a text that has a class: the empty one, or one of the list
abbrev pub Known : List (List ℕ) → List ℕ → Type 0
Known T t = (t ≡ []) ⊎ (place same T t < length T)

pub number_some : (T : List (List ℕ)) (t : List ℕ) → 0 < length t → number_of T t ≡ suc (place same T t)
unfolding number_of
number_some T [] h = absurd (let q : ⊥ = omega arith in q)
number_some T (b ∷ t) h = refl

pub number_empty : (T : List (List ℕ)) → number_of T [] ≡ 0
unfolding number_of
number_empty T = refl

-- class 0 is that of the empty text alone
pub class_empty : (T : List (List ℕ)) (t : List ℕ) → (number_of T t ≡ 0) ↔ (t ≡ [])
unfolding number_of
class_empty T [] = (λ e. refl, λ e. refl)
class_empty T (b ∷ t) = (λ e. absurd (let q : ⊥ = omega arith in q), λ e. cc)

pub same_class : (T : List (List ℕ)) (s t : List ℕ) → Known T s → Known T t → number_of T s ≡ number_of T t → s ≡ t
unfolding number_of
same_class T [] [] i j e = refl
same_class T [] (y ∷ t) i j e = absurd (let q : ⊥ = omega arith in q)
same_class T (x ∷ s) [] i j e = absurd (let q : ⊥ = omega arith in q)
same_class T (x ∷ s) (y ∷ t) (inl i) j e = cc
same_class T (x ∷ s) (y ∷ t) (inr i) (inl j) e = cc
same_class T (x ∷ s) (y ∷ t) (inr i) (inr j) e =
    let p : place same T (x ∷ s) ≡ place same T (y ∷ t) = omega arith in
    let a = place_at same tells_text T (x ∷ s) i in
    let b = place_at same tells_text T (y ∷ t) j in
    let z : some (x ∷ s) ≡ some (y ∷ t) = sym a ∙ ap (get_elem? T) p ∙ b in
    cc

module _ (doc : List ℕ) (rows : List NameRow) where
  pub texts_at : (k : ℕ) {r : NameRow} → get_elem? rows k ≡ some r → get_elem? (texts_of doc rows) k ≡ some (row_text doc r)
  unfolding texts_of
  texts_at k e = at_map (row_text doc) rows k e

  pub length_texts : length (texts_of doc rows) ≡ length rows
  unfolding texts_of
  length_texts = length-map rows (row_text doc)

  pub length_classes : length (name_classes doc rows) ≡ length rows
  unfolding name_classes texts_of
  length_classes = length-map (map (row_text doc) rows) (number_of (map (row_text doc) rows)) ∙ length-map rows (row_text doc)

  pub name_class_at : (k : ℕ) {r : NameRow} → get_elem? rows k ≡ some r → get_or (name_classes doc rows) k 0 ≡ number_of (texts_of doc rows) (row_text doc r)
  unfolding name_classes
  name_class_at k e =
      at_get_d (map (number_of (texts_of doc rows)) (texts_of doc rows)) k 0 (at_map (number_of (texts_of doc rows)) (texts_of doc rows) k (texts_at k e))

  pub name_text_at : (k : ℕ) {r : NameRow} → get_elem? rows k ≡ some r → name_text doc rows (suc k) ≡ row_text doc r
  unfolding name_text
  name_text_at k e = rw e

  row_of_text : (k : ℕ) {t : List ℕ} → get_elem? (texts_of doc rows) k ≡ some t → name_text doc rows (suc k) ≡ t
  row_of_text k {t} e =
      let h : k < length (texts_of doc rows) = at_inside (texts_of doc rows) k e in
      let s = at_some rows k (omega (arith, length_texts)) in
      let i = texts_at k s.1 in
      let j = name_text_at k s.1 in
      cc

  class_of_text : (k : ℕ) (t : List ℕ) → get_elem? (texts_of doc rows) k ≡ some t
      → (number_of (texts_of doc rows) t ≤ suc k) × (name_text doc rows (number_of (texts_of doc rows) t) ≡ t) × Known (texts_of doc rows) t
  unfolding number_of name_text
  class_of_text k [] e = (omega arith, refl, inl refl)
  class_of_text k (b ∷ t) e =
      let f = place_found same tells_text (texts_of doc rows) k e in
      let h : place same (texts_of doc rows) (b ∷ t) < length (texts_of doc rows) = omega (arith, f.0, f.1) in
      (omega (arith, f.0), row_of_text (place same (texts_of doc rows) (b ∷ t)) (place_at same tells_text (texts_of doc rows) (b ∷ t) h), inr h)

  -- for each row number, 0 too: the class is a row number not after it, of a row with the same text
  pub class_text_fact : (x : ℕ) → x ≤ length rows
      → (number_of (texts_of doc rows) (name_text doc rows x) ≤ x) × (name_text doc rows (number_of (texts_of doc rows) (name_text doc rows x)) ≡ name_text doc rows x)
      × Known (texts_of doc rows) (name_text doc rows x)
  unfolding name_text number_of
  class_text_fact zero h = (omega arith, refl, inl refl)
  class_text_fact (suc k) h =
      let s = at_some rows k (omega arith) in
      rw (name_text_at k s.1) (class_of_text k (row_text doc s.0) (texts_at k s.1))

  pub name_known : (x : ℕ) → x ≤ length rows → Known (texts_of doc rows) (name_text doc rows x)
  name_known x h = (class_text_fact x h).2

  pub class_row : (x c : ℕ) → 1 ≤ x → x ≤ length rows → c ≡ number_of (texts_of doc rows) (name_text doc rows x) → (name_text doc rows x ≡ [] → ⊥)
      → (1 ≤ c) × (c ≤ x) × (name_text doc rows c ≡ name_text doc rows x)
  class_row x c l h e n =
      let r = class_text_fact x h in
      let z : c ≡ 0 → ⊥ = λ q. n ((class_empty (texts_of doc rows) (name_text doc rows x)).0 (sym e ∙ q)) in
      (omega (arith, z), omega (arith, r.0), rw e r.1)

module _ (doc : List ℕ) (names : List NameRow) (rows : List QnameRow) where
  pub triples_at : (k : ℕ) {q : QnameRow} → get_elem? rows k ≡ some q → get_elem? (triples_of doc names rows) k ≡ some (triple_of doc names q)
  unfolding triples_of
  triples_at k e = at_map (triple_of doc names) rows k e

  pub length_triples : length (triples_of doc names rows) ≡ length rows
  unfolding triples_of
  length_triples = length-map rows (triple_of doc names)

  pub length_qclasses : length (qname_classes doc names rows) ≡ length rows
  unfolding qname_classes
  length_qclasses = length-map (triples_of doc names rows) (qnumber_of (triples_of doc names rows)) ∙ length_triples

  pub qname_class_at : (k : ℕ) {q : QnameRow} → get_elem? rows k ≡ some q
      → get_or (qname_classes doc names rows) k 0 ≡ qnumber_of (triples_of doc names rows) (triple_of doc names q)
  unfolding qname_classes
  qname_class_at k e =
      at_get_d (map (qnumber_of (triples_of doc names rows)) (triples_of doc names rows)) k 0
      (at_map (qnumber_of (triples_of doc names rows)) (triples_of doc names rows) k (triples_at k e))

  -- the class of row k, from 0, and the class's own row
  pub record OwnRow (k c : ℕ) (t : Triple) : Type 0 where
    pub from : 1 ≤ c
    pub to : c ≤ suc k
    pub row : QnameRow
    pub at : get_elem? rows (c - 1) ≡ some row
    pub same : triple_of doc names row ≡ t

  pub qclass_row : (k c : ℕ) {q : QnameRow} → get_elem? rows k ≡ some q → c ≡ qnumber_of (triples_of doc names rows) (triple_of doc names q)
      → OwnRow k c (triple_of doc names q)
  unfolding qnumber_of
  qclass_row k c {q} e i =
      let T : List Triple = triples_of doc names rows in
      let p : ℕ = place same_triple T (triple_of doc names q) in
      let f = place_found same_triple tells_triple T k (triples_at k e) in
      let h : p < length T = omega (arith, f.0, f.1) in
      let s = at_some rows p (omega (arith, length_triples)) in
      let a = place_at same_triple tells_triple T (triple_of doc names q) h in
      let b = triples_at p s.1 in
      let j : c - 1 ≡ p = omega arith in
      record { from = omega arith; to = omega (arith, f.0); row = s.0; at = rw j s.1; same = cc }
