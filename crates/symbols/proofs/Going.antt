-- A list that is stored number by number: what is stored, what is still to come, and its hash. Assumes nothing.
use Prim.Native.Nat.{ℕ, ◌+◌, ◌≤◌, ◌<◌}
use mathlib.Core.Path.{◌≡◌, refl, sym, ap, subst, ◌∙◌}
use mathlib.Core.List.{List, [], ◌∷◌, ◌++◌}
use native.Mathlib.Omega.{arith}
use native.Mathlib.Numerals.{add-one}
use lib.ListN.{length, get_or, take, set, length-append}
use lib.Seq.{length-sets, take-suc, take_all}
use Rattle.sequences.proofs.Overlay.{sets_append}
use Rattle.hash.specs.Hash.{mix_of, hash_from}
use Rattle.hash.proofs.Hashes.{hash_append}
use Rattle.symbols.specs.declared.Cursor.{Cursor}
use Rattle.symbols.specs.Store.{NumbersPut, PutHashed}

-- ---- one after the other

pub put_put : {l₀ l₁ l₂ xs ys : List ℕ} {a b c : ℕ} → NumbersPut l₀ a xs l₁ b → NumbersPut l₁ b ys l₂ c → NumbersPut l₀ a (xs ++ ys) l₂ c
put_put {l₀} {l₁} {l₂} {xs} {ys} {a} {b} {c} p q =
    record {
      stored = q.stored ∙ sym (sym (sets_append xs ys l₀ a) ∙ rw (← p.to_is, ← p.stored));
      to_is = simp length-append (omega (arith, p.to_is, q.to_is));
    }

pub put_none : (l : List ℕ) (at : ℕ) → NumbersPut l at [] l at
put_none l at = record { stored = refl; to_is = omega arith }

pub put_long : {l₀ l₁ xs : List ℕ} {a b : ℕ} → NumbersPut l₀ a xs l₁ b → length l₁ ≡ length l₀
put_long {l₀} {l₁} {xs} {a} {b} p = ap length p.stored ∙ length-sets l₀ a xs

pub put_as : {l₀ l₁ xs ys : List ℕ} {a b : ℕ} → xs ≡ ys → NumbersPut l₀ a xs l₁ b → NumbersPut l₀ a ys l₁ b
put_as {l₀} {l₁} {a = a} {b = b} e p = subst (λ (x : List ℕ). NumbersPut l₀ a x l₁ b) e p

pub put_set : (l : List ℕ) (n v : ℕ) → NumbersPut l n (v ∷ []) (set l n v) (n + 1)
put_set l n v = record { stored = refl; to_is = refl }

pub hashed_then : {l₀ l₁ l₂ xs ys : List ℕ} {a b c : Cursor} → PutHashed l₀ a xs l₁ b → PutHashed l₁ b ys l₂ c → PutHashed l₀ a (xs ++ ys) l₂ c
hashed_then {xs = xs} {ys = ys} {a = a} p q =
    record {
      put = put_put p.put q.put;
      hash_is = q.hash_is ∙ ap (λ (h : ℕ). hash_from h ys) p.hash_is ∙ sym (hash_append a.hash xs ys);
    }

pub hashed_none : (l : List ℕ) (a : Cursor) → PutHashed l a [] l a
unfolding hash_from
hashed_none l a = record { put = put_none l a.at; hash_is = refl }

pub hashed_as : {l₀ l₁ xs ys : List ℕ} {a b : Cursor} → xs ≡ ys → PutHashed l₀ a xs l₁ b → PutHashed l₀ a ys l₁ b
hashed_as {l₀} {l₁} {a = a} {b = b} e p = subst (λ (x : List ℕ). PutHashed l₀ a x l₁ b) e p

pub hashed_one : (l : List ℕ) (a : Cursor) (x h : ℕ) → h ≡ mix_of a.hash x → PutHashed l a (x ∷ []) (set l a.at x) (record { at = a.at + 1; hash = h })
unfolding hash_from
hashed_one l a x h e = record { put = put_set l a.at x; hash_is = e }

-- ---- a loop that stores the first k numbers of a list

pub stored_next : {l₀ l l' : List ℕ} (xs : List ℕ) {a b c : Cursor} {n k x : ℕ} → PutHashed l₀ a (take k xs) l b → n ≡ length xs → k < n → x ≡ get_or xs k 0
    → PutHashed l b (x ∷ []) l' c → PutHashed l₀ a (take (k + 1) xs) l' c
stored_next xs {n = n} {k = k} {x = x} p e h f q =
    let i : k < length xs = omega (arith, e, h) in
    let t : take k xs ++ (x ∷ []) ≡ take (k + 1) xs = rw (f, add-one) (sym (take-suc xs k 0 i)) in
    hashed_as t (hashed_then p q)

pub stored_whole : {l₀ l : List ℕ} (xs : List ℕ) {a b : Cursor} {n k : ℕ} → PutHashed l₀ a (take k xs) l b → n ≡ length xs → n ≤ k → PutHashed l₀ a xs l b
stored_whole xs {n = n} {k = k} p e h = hashed_as (take_all k xs (omega (arith, e, h))) p
