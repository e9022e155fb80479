-- Lists one after the other, and where each ends. Assumes nothing.
use Prim.Native.Nat.{ℕ, zero, suc, ◌+◌, ◌-◌, ◌≤◌, ◌<◌}
use mathlib.Core.Path.{◌≡◌, refl, sym, ap, ◌∙◌}
use mathlib.Core.Bool.{Bool, true, false, cond}
use mathlib.Core.List.{List, [], ◌∷◌, ◌++◌, map, append_assoc, append-nil}
use native.Mathlib.Omega.{arith}
use native.Mathlib.Nat.{add-zero}
use lib.ListN.{length, get_or, take, drop, length-append, length-map, get_or-append}
use lib.Seq.{sets, sets-eq, take_at, drop_at, length-sets}
use Rattle.hash.specs.Hash.{hash_from, hash_of, seed}
use Rattle.hash.proofs.Hashes.{hash_append}
use Rattle.twins.specs.Parts.{Cut, part_at, values, parts_of}

abbrev pub flat : List (List ℕ) → List ℕ
flat [] = []
flat (p ∷ ps) = p ++ flat ps

-- where each list ends, from o on
abbrev pub sums : ℕ → List (List ℕ) → List ℕ
sums o [] = []
sums o (p ∷ ps) = (o + length p) ∷ sums (o + length p) ps

-- all but the first
abbrev pub later : List (List ℕ) → List (List ℕ)
later [] = []
later (p ∷ ps) = ps

pub flat_snoc : (ps : List (List ℕ)) (p : List ℕ) → flat (ps ++ (p ∷ [])) ≡ flat ps ++ p
flat_snoc [] p = append-nil p
flat_snoc (x ∷ ps) p = ap (λ (l : List ℕ). x ++ l) (flat_snoc ps p) ∙ sym (append_assoc x (flat ps) p)

pub sums_snoc : (o : ℕ) (ps : List (List ℕ)) (p : List ℕ) → sums o (ps ++ (p ∷ [])) ≡ sums o ps ++ ((o + length (flat ps ++ p)) ∷ [])
sums_snoc o [] p = refl
sums_snoc o (x ∷ ps) p =
    let e : o + length x + length (flat ps ++ p) ≡ o + length ((x ++ flat ps) ++ p) = simp length-append (omega arith) in
    ap (λ (l : List ℕ). (o + length x) ∷ l) (sums_snoc (o + length x) ps p ∙ rw e)

pub sums_long : (o : ℕ) (ps : List (List ℕ)) → length (sums o ps) ≡ length ps
sums_long o [] = refl
sums_long o (p ∷ ps) = ap suc (sums_long (o + length p) ps)

later_long : (ps : List (List ℕ)) → length (later ps) ≡ length ps - 1
later_long [] = refl
later_long (p ∷ ps) = omega arith

later_at : (ps : List (List ℕ)) (k : ℕ) → get_or (later ps) k [] ≡ get_or ps (suc k) []
later_at [] k = refl
later_at (p ∷ ps) k = refl

hash_at : (ps : List (List ℕ)) (k : ℕ) → k < length ps → get_or (map hash_of ps) k 0 ≡ hash_of (get_or ps k [])
hash_at [] k h = absurd (let q : ⊥ = omega arith in q)
hash_at (p ∷ ps) zero h = refl
hash_at (p ∷ ps) (suc k) h = hash_at ps k (omega arith)

hash_snoc : (ps : List (List ℕ)) (p : List ℕ) → map hash_of (ps ++ (p ∷ [])) ≡ map hash_of ps ++ (hash_of p ∷ [])
hash_snoc [] p = refl
hash_snoc (x ∷ ps) p = ap (λ (l : List ℕ). hash_of x ∷ l) (hash_snoc ps p)

-- ---- at a row that begins a record, and at one that does not

pub hashes_new : (s : Bool) (done : List (List ℕ)) (cur : List ℕ) (h : ℕ) → h ≡ hash_of cur
    → map hash_of done ++ cond s (h ∷ []) [] ≡ map hash_of (cond s (done ++ (cur ∷ [])) done)
hashes_new true done cur h e = sym (hash_snoc done cur ∙ rw (← e))
hashes_new false done cur h e = append-nil (map hash_of done)

pub hash_new : (s : Bool) (cur x : List ℕ) (h : ℕ) → h ≡ hash_of cur → hash_from (cond s seed h) x ≡ hash_of (cond s x (cur ++ x))
hash_new true cur x h e = refl
hash_new false cur x h e = ap (λ (y : ℕ). hash_from y x) e ∙ sym (hash_append seed cur x)

pub flat_new : (s : Bool) (done : List (List ℕ)) (cur x : List ℕ) → (flat done ++ cur) ++ x ≡ flat (cond s (done ++ (cur ∷ [])) done) ++ cond s x (cur ++ x)
flat_new true done cur x = ap (λ (l : List ℕ). l ++ x) (sym (flat_snoc done cur))
flat_new false done cur x = append_assoc (flat done) cur x

pub sums_new : (s : Bool) (done : List (List ℕ)) (cur : List ℕ) (at : ℕ) → at ≡ 0 + length (flat done ++ cur)
    → sums 0 done ++ cond s (at ∷ []) [] ≡ sums 0 (cond s (done ++ (cur ∷ [])) done)
sums_new true done cur at e = sym (sums_snoc 0 done cur ∙ rw (← e))
sums_new false done cur at e = append-nil (sums 0 done)

-- ---- the parts

sums_le : (o : ℕ) (ps : List (List ℕ)) (k : ℕ) → k < length ps → get_or (sums o ps) k 0 ≤ o + length (flat ps)
sums_le o [] k h = absurd (let q : ⊥ = omega arith in q)
sums_le o (p ∷ ps) zero h = simp length-append (omega arith)
sums_le o (p ∷ ps) (suc k) h =
    let i : get_or (sums (o + length p) ps) k 0 ≤ o + length p + length (flat ps) = sums_le (o + length p) ps k (omega arith) in
    simp length-append (omega arith)

sums_up : (o : ℕ) (ps : List (List ℕ)) (k : ℕ) → suc k < length ps → get_or (sums o ps) k 0 ≤ get_or (sums o ps) (suc k) 0
sums_up o [] k h = absurd (let q : ⊥ = omega arith in q)
sums_up o (p ∷ []) k h = absurd (let q : ⊥ = omega arith in q)
sums_up o (p ∷ r ∷ rs) zero h = omega arith
sums_up o (p ∷ r ∷ rs) (suc k) h = sums_up (o + length p) (r ∷ rs) k (omega arith)

part_at_lem : (o : ℕ) (pre : List ℕ) (ps : List (List ℕ)) (post : List ℕ) (k : ℕ) → length pre ≡ o → suc k < length ps
    → take (get_or (sums o ps) (suc k) 0 - get_or (sums o ps) k 0) (drop (get_or (sums o ps) k 0) (pre ++ (flat ps ++ post))) ≡ get_or ps (suc k) []
part_at_lem o pre [] post k e h = absurd (let q : ⊥ = omega arith in q)
part_at_lem o pre (p ∷ []) post k e h = absurd (let q : ⊥ = omega arith in q)
part_at_lem o pre (p ∷ r ∷ rs) post zero e h =
    let l : pre ++ ((p ++ (r ++ flat rs)) ++ post) ≡ (pre ++ p) ++ (r ++ (flat rs ++ post)) = simp append_assoc in
    let g : length (pre ++ p) ≡ o + length p = simp length-append (omega arith) in
    let m : o + length p + length r - (o + length p) ≡ length r = omega arith in
    rw (l, drop_at (pre ++ p) (r ++ (flat rs ++ post)) (o + length p) g, m) (take_at r (flat rs ++ post) (length r) refl)
part_at_lem o pre (p ∷ r ∷ rs) post (suc k) e h =
    let l : pre ++ ((p ++ flat (r ∷ rs)) ++ post) ≡ (pre ++ p) ++ (flat (r ∷ rs) ++ post) = simp append_assoc in
    let g : length (pre ++ p) ≡ o + length p = simp length-append (omega arith) in
    rw l (part_at_lem (o + length p) (pre ++ p) (r ∷ rs) post k g (omega arith))

-- what is stored from the front on
laid : (l xs : List ℕ) → length xs ≤ length l → sets l 0 xs ≡ xs ++ drop (length xs) l
laid l xs h = let k : 0 + length xs ≤ length l = omega arith in sets-eq xs l 0 k ∙ rw (zero_add' (length xs))
  where
    zero_add' : (x : ℕ) → 0 + x ≡ x
    zero_add' x = omega arith

-- values that are those of a list
values_are : (m : ℕ → List ℕ) (f k : ℕ) (l : List (List ℕ)) → length l ≡ f → ((i : ℕ) → i < f → m (k + i) ≡ get_or l i []) → values m f k ≡ l
unfolding values
values_are m zero k [] e h = refl
values_are m zero k (x ∷ l) e h = absurd (let q : ⊥ = omega arith in q)
values_are m (suc f) k [] e h = absurd (let q : ⊥ = omega arith in q)
values_are m (suc f) k (x ∷ l) e h =
    let a : m k ≡ x = rw add-zero at (h 0 (omega arith)) in
    let r : values m f (suc k) ≡ l = values_are m f (suc k) l (omega arith) (λ i g. ap m (shift i) ∙ h (suc i) (omega arith)) in
    rw (a, r)
  where
    shift : (i : ℕ) → suc k + i ≡ k + suc i
    shift i = omega arith

module _ (ps : List (List ℕ)) (syms₀ starts₀ : List ℕ) (hs : length (flat ps) ≤ length syms₀) (ht : length ps ≤ length starts₀) (n : ℕ) (en : length ps ≡ suc n) where
  start_at : (k : ℕ) → k < length ps → get_or (sets starts₀ 0 (sums 0 ps)) k 0 ≡ get_or (sums 0 ps) k 0
  start_at k h =
      let a : length (sums 0 ps) ≤ length starts₀ = omega (arith, sums_long 0 ps) in
      let b : k < length (sums 0 ps) = omega (arith, sums_long 0 ps) in
      rw (laid starts₀ (sums 0 ps) a) (get_or-append (sums 0 ps) _ 0 k b)

  pub cut_here : Cut (sets syms₀ 0 (flat ps)) (sets starts₀ 0 (sums 0 ps)) n
  cut_here =
      record {
        room = omega (arith, length-sets starts₀ 0 (sums 0 ps));
        order = λ k h. ordered k h;
        inside = within;
      }
    where
      ordered : (k : ℕ) → k < n → get_or (sets starts₀ 0 (sums 0 ps)) k 0 ≤ get_or (sets starts₀ 0 (sums 0 ps)) (k + 1) 0
      ordered k h =
          let e : k + 1 ≡ suc k = omega arith in
          rw (e, start_at k (omega arith), start_at (suc k) (omega arith)) (sums_up 0 ps k (omega arith))

      within : get_or (sets starts₀ 0 (sums 0 ps)) n 0 ≤ length (sets syms₀ 0 (flat ps))
      within =
          let s : get_or (sums 0 ps) n 0 ≤ 0 + length (flat ps) = sums_le 0 ps n (omega arith) in
          rw (start_at n (omega arith), length-sets syms₀ 0 (flat ps)) (omega arith)

  is_part : (i : ℕ) → i < n → part_at (sets syms₀ 0 (flat ps)) (sets starts₀ 0 (sums 0 ps)) i ≡ get_or (later ps) i []
  is_part i h =
      let e : i + 1 ≡ suc i = omega arith in
      rw (e, start_at i (omega arith), start_at (suc i) (omega arith), laid syms₀ (flat ps) hs, later_at ps i)
      (part_at_lem 0 [] ps (drop (length (flat ps)) syms₀) i refl (omega arith))

  pub parts_here : parts_of (sets syms₀ 0 (flat ps)) (sets starts₀ 0 (sums 0 ps)) n ≡ later ps
  unfolding parts_of
  parts_here = values_are _ n 0 (later ps) (later_long ps ∙ size) (λ i h. ap (part_at (sets syms₀ 0 (flat ps)) (sets starts₀ 0 (sums 0 ps))) (from_zero i) ∙ is_part i h)
    where
      size : length ps - 1 ≡ n
      size = omega arith

      from_zero : (i : ℕ) → 0 + i ≡ i
      from_zero i = omega arith

  -- the hash of part k stands at place k + 1
  pub hashes_here : (hashes₀ : List ℕ) → length ps ≤ length hashes₀ → (k : ℕ) → k < n
      → get_or (sets hashes₀ 0 (map hash_of ps)) (k + 1) 0 ≡ hash_of (part_at (sets syms₀ 0 (flat ps)) (sets starts₀ 0 (sums 0 ps)) k)
  hashes_here hashes₀ h k l =
      let a : length (map hash_of ps) ≤ length hashes₀ = omega (arith, length-map ps hash_of) in
      let b : suc k < length (map hash_of ps) = omega (arith, length-map ps hash_of) in
      let e : k + 1 ≡ suc k = omega arith in
      rw (e, laid hashes₀ (map hash_of ps) a) (get_or-append (map hash_of ps) _ 0 (suc k) b ∙ hash_at ps (suc k) (omega arith)) ∙ ap hash_of (sym (is_part k l ∙ later_at ps k))
