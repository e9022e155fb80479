-- Texts and qnames that are defined once: what a list of them holds after one was needed. Assumes nothing.
use Prim.Native.Nat.{ℕ, suc, ◌<◌}
use mathlib.Core.Path.{◌≡◌, refl, sym, ◌∙◌, ap}
use mathlib.Core.Bool.{Bool, true, false, cond}
use mathlib.Core.Option.{some}
use mathlib.Core.List.{List, [], ◌∷◌, ◌++◌}
use native.Mathlib.Omega.{arith}
use lib.ListN.{length, get_elem?, length-append}
use Rattle.sequences.specs.Lists.{same, In}
use Rattle.form.specs.Canonical.{Triple, same_triple, place, absent, fresh, number_of, grown_if, grown, Defined, defined, with_qname, with_texts}
use Rattle.form.proofs.Places.{Tells, tells_text, tells_triple, present, absent_place, place_present, place_grows, place_at, place_found, place_last}
use Rattle.form_laws.proofs.Lists.{in_place}

module _ {A : Type 0} (same : A → A → Bool) (tells : Tells same) where
  -- what is absent is no element
  pub absent_not : (l : List A) (a : A) → absent same l a ≡ true → In a l → ⊥
  absent_not l a e m =
      let h = in_place m in
      let f = place_found same tells l h.0 h.1 in
      let g = absent_place same l a e in
      omega arith

  -- an absent element, added
  pub added : (l : List A) (a : A) → absent same l a ≡ true → (absent same (l ++ (a ∷ [])) a ≡ false) × (place same (l ++ (a ∷ [])) a ≡ place same l a)
  added l a e =
      let p = place_last same tells l a e in
      let q = absent_place same l a e in
      let h : place same (l ++ (a ∷ [])) a < length (l ++ (a ∷ [])) = rw length-append (omega arith) in
      (place_present same (l ++ (a ∷ [])) a h, p ∙ sym q)

  -- the number of an element that is there
  pub stands : (l : List A) (a : A) → absent same l a ≡ false → (place same l a < length l) × (get_elem? l (place same l a) ≡ some a)
  stands l a e = let h = present same l a e in (h, place_at same tells l a h)

  pub keeps : (l : List A) (a b : A) → absent same l a ≡ false → absent same (l ++ (b ∷ [])) a ≡ false
  keeps l a b e =
      let h = present same l a e in
      let g : place same (l ++ (b ∷ [])) a ≡ place same l a = place_grows same l (b ∷ []) a h in
      let i : place same (l ++ (b ∷ [])) a < length (l ++ (b ∷ [])) = rw length-append (omega arith) in
      place_present same (l ++ (b ∷ [])) a i

-- a text is there after it was needed, and has the number that it then got
pub fresh_grown : (c : List (List ℕ)) (t : List ℕ) → fresh (grown c t) t ≡ false
unfolding fresh grown grown_if
fresh_grown c [] = refl
fresh_grown c (x ∷ t) = go (absent same c (x ∷ t)) refl
  where
    go : (b : Bool) → absent same c (x ∷ t) ≡ b → absent same (cond b (c ++ ((x ∷ t) ∷ [])) c) (x ∷ t) ≡ false
    go true e = (added same tells_text c (x ∷ t) e).0
    go false e = e

pub number_grown : (c : List (List ℕ)) (t : List ℕ) → number_of (grown c t) t ≡ number_of c t
unfolding fresh grown grown_if number_of
number_grown c [] = refl
number_grown c (x ∷ t) = go (absent same c (x ∷ t)) refl
  where
    go : (b : Bool) → absent same c (x ∷ t) ≡ b → suc (place same (cond b (c ++ ((x ∷ t) ∷ [])) c) (x ∷ t)) ≡ suc (place same c (x ∷ t))
    go true e = ap suc (added same tells_text c (x ∷ t) e).1
    go false e = refl

-- a text that was there stays
pub fresh_keeps : (c : List (List ℕ)) (s t : List ℕ) → fresh c t ≡ false → fresh (grown c s) t ≡ false
unfolding fresh grown grown_if
fresh_keeps c s [] e = refl
fresh_keeps c s (x ∷ t) e = go (fresh c s)
  where
    go : (b : Bool) → absent same (cond b (c ++ (s ∷ [])) c) (x ∷ t) ≡ false
    go true = keeps same tells_text c (x ∷ t) s e
    go false = e

-- a qname that was needed is there, at the number that it then got
pub qname_there : (c : Defined) (q : Triple) → get_elem? (with_qname c q).qnames (place same_triple c.qnames q) ≡ some q
unfolding with_qname
qname_there c q = go (absent same_triple c.qnames q) refl
  where
    go : (b : Bool) → absent same_triple c.qnames q ≡ b
        → get_elem? (cond b (defined (with_texts c.names q) (c.qnames ++ (q ∷ []))) c).qnames (place same_triple c.qnames q) ≡ some q
    go true e =
        let a = added same_triple tells_triple c.qnames q e in
        rw (← a.1) (stands same_triple tells_triple (c.qnames ++ (q ∷ [])) q a.0).1
    go false e = (stands same_triple tells_triple c.qnames q e).1
