-- The pairs of one part written along the links, and all pairs part after part. Assumes nothing.
use Prim.Native.Nat.{ℕ, suc, ◌+◌, ◌*◌, ◌≤◌, ◌<◌}
use mathlib.Core.Path.{◌≡◌, refl, sym, ap, ◌∙◌}
use mathlib.Core.List.{List, [], ◌∷◌, ◌++◌, map, map-append, append_assoc, append-nil}
use native.Mathlib.Omega.{arith}
use lib.ListN.{length, set, length-append, length-map}
use lib.Seq.{sets, length-sets}
use Rattle.sequences.specs.Lists.{overlay, same}
use Rattle.sequences.proofs.Overlay.{sets_append, overlay_sets}
use Rattle.meaning.specs.Meaning.{Pair, pair, pairs_of, flat_pairs}
use Rattle.twins.specs.Parts.{part_at, parts_of, Next}
use Rattle.twins.specs.Search.{twins_of, pairs_after}
use Rattle.twins.proofs.Links.{pairs_all}
use Rattle.twins.proofs.Twins.{twins_next, twins_end, flat_append, flat_long, pairs_step, pairs_none}

-- the pairs of i with each of xs, as numbers
abbrev pub run_of : ℕ → List ℕ → List ℕ
run_of i xs = flat_pairs (map (pair i) xs)

run_append : (i : ℕ) (xs ys : List ℕ) → run_of i (xs ++ ys) ≡ run_of i xs ++ run_of i ys
run_append i xs ys = ap flat_pairs (map-append (pair i) xs ys) ∙ flat_append (map (pair i) xs) (map (pair i) ys)

run_long : (i : ℕ) (xs : List ℕ) → length (run_of i xs) ≡ 2 * length xs
run_long i xs = flat_long (map (pair i) xs) ∙ ap (λ (x : ℕ). 2 * x) (length-map xs (pair i))

-- the pairs of i with xs are written; the rest are the parts equal to part `here`, whose next is j
pub record Written (m : ℕ → List ℕ) (n i at : ℕ) (out₀ out : List ℕ) (to j : ℕ) : Type 0 where
  pub xs : List ℕ
  pub here : ℕ
  pub next : Next m n here j
  pub whole : xs ++ twins_of m n here ≡ twins_of m n i
  pub out_is : out ≡ sets out₀ at (run_of i xs)
  pub to_is : to ≡ at + 2 * length xs

pub run_first : (m : ℕ → List ℕ) (n i at : ℕ) (out : List ℕ) (j : ℕ) → Next m n i j → Written m n i at out out at j
run_first m n i at out j x = record { xs = []; here = i; next = x; whole = refl; out_is = refl; to_is = omega arith }

module _ {m : ℕ → List ℕ} {n i at : ℕ} {out₀ out : List ℕ} {to j : ℕ} (w : Written m n i at out₀ out to j) where
  run_whole : j < n → (w.xs ++ (j ∷ [])) ++ twins_of m n j ≡ twins_of m n i
  run_whole h =
      append_assoc w.xs (j ∷ []) (twins_of m n j)
      ∙ ap (λ (l : List ℕ). w.xs ++ l) (sym (twins_next m n w.here j w.next h))
      ∙ w.whole

  pub run_same : length out ≡ length out₀
  run_same = ap length w.out_is ∙ length-sets out₀ at (run_of i w.xs)

  pub run_fits : j < n → at + 2 * length (twins_of m n i) ≤ length out₀ → (to + 2 ≤ length out) × (length out ≡ length out₀)
  run_fits h room =
      let e : length w.xs + 1 + length (twins_of m n j) ≡ length (twins_of m n i) =
      sym
      (length-append (w.xs ++ (j ∷ [])) (twins_of m n j)
      ∙ ap (λ (x : ℕ). x + length (twins_of m n j)) (length-append w.xs (j ∷ [])))
      ∙ ap length (run_whole h) in
      (omega (arith, w.to_is, run_same), run_same)

  pub run_more : (k : ℕ) → j < n → Next m n j k → Written m n i at out₀ (set (set out to i) (to + 1) j) (to + 2) k
  run_more k h x =
      record {
        xs = w.xs ++ (j ∷ []);
        here = j;
        next = x;
        whole = run_whole h;
        out_is = two;
        to_is = simp length-append (omega (arith, w.to_is));
      }
    where
      two : set (set out to i) (to + 1) j ≡ sets out₀ at (run_of i (w.xs ++ (j ∷ [])))
      two =
          let e : to ≡ at + length (run_of i w.xs) = w.to_is ∙ ap (λ (x : ℕ). at + x) (sym (run_long i w.xs)) in
          let s : to + 1 ≡ suc to = omega arith in
          sym
          (ap (sets out₀ at) (run_append i w.xs (j ∷ []))
          ∙ sym (sets_append (run_of i w.xs) (i ∷ j ∷ []) out₀ at)
          ∙ rw (← e, ← w.out_is, s))

  pub run_end : n ≤ j → (out ≡ sets out₀ at (run_of i (twins_of m n i))) × (to ≡ at + 2 * length (twins_of m n i))
  run_end h = (rw all at w.out_is, rw all at w.to_is)
    where
      all : w.xs ≡ twins_of m n i
      all =
          sym (append-nil w.xs)
          ∙ ap (λ (l : List ℕ). w.xs ++ l) (sym (twins_end m n w.here j w.next h))
          ∙ w.whole

-- the pairs whose earlier part is before i are written
pub record Listed (m : ℕ → List ℕ) (n : ℕ) (out₀ out : List ℕ) (at i : ℕ) : Type 0 where
  pub done : List Pair
  pub whole : done ++ pairs_after m n i ≡ pairs_after m n 0
  pub out_is : out ≡ sets out₀ 0 (flat_pairs done)
  pub at_is : at ≡ 2 * length done

pub listed_first : (m : ℕ → List ℕ) (n : ℕ) (out : List ℕ) → Listed m n out out 0 0
listed_first m n out = record { done = []; whole = refl; out_is = refl; at_is = refl }

module _ {m : ℕ → List ℕ} {n : ℕ} {out₀ out : List ℕ} {at i : ℕ} (w : Listed m n out₀ out at i) where
  listed_whole : i < n → (w.done ++ map (pair i) (twins_of m n i)) ++ pairs_after m n (suc i) ≡ pairs_after m n 0
  listed_whole h =
      append_assoc w.done _ _ ∙ ap (λ (l : List Pair). w.done ++ l) (sym (pairs_step m n i h)) ∙ w.whole

  pub listed_same : length out ≡ length out₀
  listed_same = ap length w.out_is ∙ length-sets out₀ 0 (flat_pairs w.done)

  pub listed_fits : i < n → 2 * length (pairs_after m n 0) ≤ length out₀ → at + 2 * length (twins_of m n i) ≤ length out
  listed_fits h r =
      let g : length (map (pair i) (twins_of m n i)) ≡ length (twins_of m n i) = length-map (twins_of m n i) (pair i) in
      let e : (length w.done + length (map (pair i) (twins_of m n i))) + length (pairs_after m n (suc i))
      ≡ length (pairs_after m n 0) =
      sym
      (length-append (w.done ++ map (pair i) (twins_of m n i)) _
      ∙ ap (λ (x : ℕ). x + length (pairs_after m n (suc i))) (length-append w.done _))
      ∙ ap length (listed_whole h) in
      omega (arith, w.at_is, listed_same)

  pub listed_more : (new : List ℕ) (r : ℕ) → i < n → new ≡ sets out at (run_of i (twins_of m n i))
      → r ≡ at + 2 * length (twins_of m n i) → Listed m n out₀ new r (i + 1)
  listed_more new r h e q =
      let s : i + 1 ≡ suc i = omega arith in
      rw s
      (record {
        done = w.done ++ map (pair i) (twins_of m n i);
        whole = listed_whole h;
        out_is = e ∙ both;
        at_is = simp (length-append, length-map) (omega (arith, w.at_is));
      })
    where
      both : sets out at (run_of i (twins_of m n i)) ≡ sets out₀ 0 (flat_pairs (w.done ++ map (pair i) (twins_of m n i)))
      both =
          let a : at ≡ 0 + length (flat_pairs w.done) = omega (arith, w.at_is, flat_long w.done) in
          sym
          (ap (sets out₀ 0) (flat_append w.done _)
          ∙ sym (sets_append (flat_pairs w.done) _ out₀ 0)
          ∙ rw (← a, ← w.out_is))

  listed_end : n ≤ i → out ≡ sets out₀ 0 (flat_pairs (pairs_after m n 0))
  listed_end h =
      let e : w.done ≡ pairs_after m n 0 =
      sym (append-nil w.done) ∙ ap (λ (l : List Pair). w.done ++ l) (sym (pairs_none m n i h)) ∙ w.whole in
      rw e at w.out_is

module _ (syms starts : List ℕ) (n : ℕ) (out₀ : List ℕ) (room : 2 * length (pairs_of same (parts_of syms starts n)) ≤ length out₀) where
  pub room_after : 2 * length (pairs_after (part_at syms starts) n 0) ≤ length out₀
  room_after = rw (pairs_all syms starts n) room

  pub all_written : (out : List ℕ) (at i : ℕ) → Listed (part_at syms starts) n out₀ out at i → n ≤ i
      → out ≡ overlay (flat_pairs (pairs_of same (parts_of syms starts n))) out₀
  all_written out at i w h =
      let l : 0 + length (flat_pairs (pairs_of same (parts_of syms starts n))) ≤ length out₀ =
      omega (arith, flat_long (pairs_of same (parts_of syms starts n))) in
      rw (pairs_all syms starts n) at (listed_end w h)
      ∙ overlay_sets (flat_pairs (pairs_of same (parts_of syms starts n))) [] out₀ 0 refl l
