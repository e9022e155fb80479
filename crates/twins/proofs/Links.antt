-- The parts as a list and as a function of the place, and links over either. Assumes nothing.
use Prim.Native.Nat.{ℕ, ◌<◌}
use mathlib.Core.Path.{◌≡◌, sym, ap, ◌∙◌}
use mathlib.Core.List.{List, []}
use native.Mathlib.Omega.{arith}
use native.Mathlib.Nat.{zero-add, sub-zero}
use lib.ListN.{length, get_or}
use Rattle.sequences.specs.Lists.{same}
use Rattle.meaning.specs.Meaning.{pairs_of}
use Rattle.twins.specs.Parts.{part_at, parts_of, Next, Linked}
use Rattle.twins.specs.Search.{Nexts, pairs_after}
use Rattle.twins.proofs.Twins.{length_values, values_at}

pub parts_long : (syms starts : List ℕ) (n : ℕ) → length (parts_of syms starts n) ≡ n
unfolding parts_of
parts_long syms starts n = length_values (part_at syms starts) n 0

pub parts_at : (syms starts : List ℕ) (n k : ℕ) → k < n → get_or (parts_of syms starts n) k [] ≡ part_at syms starts k
unfolding parts_of
parts_at syms starts n k h = values_at (part_at syms starts) [] n 0 k h ∙ ap (part_at syms starts) (zero-add k)

pub pairs_all : (syms starts : List ℕ) (n : ℕ) → pairs_after (part_at syms starts) n 0 ≡ pairs_of same (parts_of syms starts n)
unfolding parts_of pairs_of
pairs_all syms starts n = rw sub-zero

next_as : {A : Type 0} (m p : ℕ → A) (n i j : ℕ) → i < n → ((k : ℕ) → k < n → m k ≡ p k) → Next m n i j → Next p n i j
next_as m p n i j h f c =
    record {
      after = c.after;
      within = c.within;
      none = λ x a b q. c.none x a b (f i h ∙ q ∙ sym (f x (below x b)));
      twin = λ l. sym (f i h) ∙ c.twin l ∙ f j l;
    }
  where
    below : (x : ℕ) → x < j → x < n
    below x b = omega (arith, c.within)

module _ (syms starts : List ℕ) (n : ℕ) (next : List ℕ) where
  pub linked_of : Nexts (part_at syms starts) n 0 next → Linked (parts_of syms starts n) next
  linked_of f = record { each = λ k h. rw (parts_long syms starts n) (each k (rw (parts_long syms starts n) at h)) }
    where
      each : (k : ℕ) → k < n → Next (λ x. get_or (parts_of syms starts n) x []) n k (get_or next k 0)
      each k h = next_as (part_at syms starts) _ n k _ h (λ x l. sym (parts_at syms starts n x l)) (f k (omega arith) h)

  pub nexts_of : Linked (parts_of syms starts n) next → Nexts (part_at syms starts) n 0 next
  nexts_of c k z h =
      let l : k < length (parts_of syms starts n) = omega (arith, parts_long syms starts n) in
      next_as _ (part_at syms starts) n k _ h (λ x b. parts_at syms starts n x b) (rw (parts_long syms starts n) at (c.each k l))
