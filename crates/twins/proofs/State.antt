-- What the arrays of the search hold when the parts from i on are done, and that one part more keeps it so. Assumes nothing.
use Prim.Native.Nat.{ℕ, suc, ◌+◌, ◌-◌, ◌*◌, ◌%◌, ◌≤◌, ◌<◌}
use mathlib.Core.Path.{◌≡◌, refl, sym, ap, subst, ◌∙◌}
use mathlib.Core.Logic.{◌⊎◌, inl, inr, ⊎_elim}
use mathlib.Core.List.{List, map}
use mathlib.Core.Bool.{Bool, true, false, cond}
use native.Mathlib.Omega.{arith}
use native.Mathlib.Nat.{eq-or-lt_of_le}
use lib.Dec.{eqb, leb}
use borrow.Author.Tests.{eqb-true, eqb-false, le-leb, lt-leb}
use lib.ListN.{length, get_or, set, length-set, length-append, length-map}
use lib.Seq.{get_or-set_same, get_or-set_other}
use Rattle.sequences.specs.Lists.{same}
use Rattle.hash.specs.Hash.{hash_of}
use Rattle.meaning.specs.Meaning.{pair, pairs_of}
use Rattle.twins.specs.Parts.{part_at, parts_of, Next, Linked}
use Rattle.twins.specs.Search.{part_slot, Head, PartsChained, Nexts, twins_of, pairs_after}
use Rattle.twins.proofs.Chain.{split}
use Rattle.twins.proofs.Links.{linked_of, pairs_all}
use Rattle.twins.proofs.Twins.{twins_next, twins_end, twins_few, pairs_step, pairs_none}

decide : (a b : ℕ) → (a ≡ b) ⊎ (a ≡ b → ⊥)
decide a b = go (eqb a b) refl
  where
    go : (t : Bool) → eqb a b ≡ t → (a ≡ b) ⊎ (a ≡ b → ⊥)
    go true e = inl (eqb-true a b e)
    go false e = inr (eqb-false a b e)

-- one more at the front of what is known
extend : (P : ℕ → ℕ → Type 0) (l : List ℕ) (n i v : ℕ) → i < length l
    → ((k : ℕ) → i + 1 ≤ k → k < n → P k (get_or l k 0)) → P i v → (k : ℕ) → i ≤ k → k < n → P k (get_or (set l i v) k 0)
extend P l n i v h f p k a b = ⊎_elim
    (λ (e : i ≡ k). subst (λ (x : ℕ). P x (get_or (set l i v) x 0)) e (subst (λ (y : ℕ). P i y) (sym (get_or-set_same l i v 0 h)) p))
    (λ (g : i < k). subst (λ (y : ℕ). P k y) (sym (get_or-set_other l i k v 0 (λ e. above g e))) (f k (omega arith) b))
    (eq-or-lt_of_le a)
  where
    above : i < k → k ≡ i → ⊥
    above g e = omega arith

pub record State (m : ℕ → List ℕ) (n i : ℕ) (next slots chain later : List ℕ) (pairs : ℕ) : Type 0 where
  pub in_range : i ≤ n
  pub next_long : length next ≡ 2048
  pub slots_long : length slots ≡ 4096
  pub chain_long : length chain ≡ 2048
  pub later_long : length later ≡ 2048
  pub nexts : Nexts m n i next
  pub heads : (b : ℕ) → b < 4096 → Head (λ x. part_slot (m x)) n b i (get_or slots b 0)
  pub chained : PartsChained m n i chain
  pub laters : (k : ℕ) → i ≤ k → k < n → get_or later k 0 ≡ length (twins_of m n k)
  pub sum : pairs ≡ length (pairs_after m n i)
  pub bound : pairs ≤ 2048 * (n - i)

module _ (m : ℕ → List ℕ) (n : ℕ) where
  -- what `after` gives
  count_is : (i j x r : ℕ) → Next m n i j → (j < n → x ≡ length (twins_of m n j)) → r ≡ cond (leb n j) 0 (x + 1)
      → r ≡ length (twins_of m n i)
  count_is i j x r c f e = ⊎_elim
      (λ (h : j < n). e ∙ rw (lt-leb n j h) (rw (twins_next m n i j c h, f h) (one (length (twins_of m n j)))))
      (λ (h : n ≤ j). e ∙ rw (le-leb n j h) (rw (twins_end m n i j c h)))
      (split j n)
    where
      one : (a : ℕ) → a + 1 ≡ suc a
      one a = omega arith

  sum_is : (i p q : ℕ) → i < n → p ≡ length (pairs_after m n (i + 1)) → q ≡ length (twins_of m n i)
      → p + q ≡ length (pairs_after m n i)
  sum_is i p q h e f =
      let s : i + 1 ≡ suc i = omega arith in
      let g : length (pairs_after m n i) ≡ length (twins_of m n i) + length (pairs_after m n (suc i)) =
      ap length (pairs_step m n i h)
      ∙ length-append (map (pair i) (twins_of m n i)) _
      ∙ ap (λ (x : ℕ). x + length (pairs_after m n (suc i))) (length-map (twins_of m n i) (pair i)) in
      let d : p ≡ length (pairs_after m n (suc i)) = rw s at e in
      omega arith

  head_more : (slots : List ℕ) (i : ℕ) → length slots ≡ 4096 → i < n
      → ((b : ℕ) → b < 4096 → Head (λ x. part_slot (m x)) n b (i + 1) (get_or slots b 0)) → (s : ℕ) → s ≡ part_slot (m i)
      → (b : ℕ) → b < 4096 → Head (λ x. part_slot (m x)) n b i (get_or (set slots s i) b 0)
  head_more slots i l h f s e b c = ⊎_elim
      (λ (q : b ≡ s). let g : s < length slots = omega arith in
      rw (q, get_or-set_same slots s i 0 g)
      (record { from = omega arith; within = omega arith; none = λ x a d w. empty x a d; hits = λ _. sym e }))
      (λ (q : b ≡ s → ⊥). rw (get_or-set_other slots s b i 0 q)
      (record {
        from = omega (arith, (f b c).from);
        within = (f b c).within;
        none = λ x a d w. ⊎_elim
            (λ (z : i ≡ x). q (sym w ∙ sym (ap (λ (y : ℕ). part_slot (m y)) z) ∙ sym e))
            (λ (z : i < x). (f b c).none x (omega arith) d w)
            (eq-or-lt_of_le a);
        hits = (f b c).hits;
      }))
      (decide b s)
    where
      empty : (x : ℕ) → i ≤ x → x < i → ⊥
      empty x a d = omega arith

  link_more : (i j b : ℕ) → b ≡ part_slot (m i) → Head (λ x. part_slot (m x)) n b (i + 1) j → Next (λ x. part_slot (m x)) n i j
  link_more i j b e h =
      record {
        after = omega (arith, h.from);
        within = h.within;
        none = λ x a d w. h.none x (omega arith) d (sym w ∙ sym e);
        twin = λ l. sym e ∙ sym (h.hits l);
      }

  -- one turn of the loop
  pub turned : (i : ℕ) (next slots chain later : List ℕ) (pairs : ℕ) → n ≤ 2048 → i < n
      → State m n (i + 1) next slots chain later pairs → (h s j l : ℕ) → h ≡ hash_of (m i) → s ≡ h % 4096
      → Next m n i j → l ≡ cond (leb n j) 0 (get_or later j 0 + 1)
      → State m n i (set next i j) (set slots s i) (set chain i (get_or slots s 0)) (set later i l) (pairs + l)
  turned i next slots chain later pairs few lt st h s j l eh es nx el =
      let w : s ≡ part_slot (m i) = es ∙ ap (λ (x : ℕ). x % 4096) eh in
      let sb : s < 4096 = omega arith in
      let c : l ≡ length (twins_of m n i) =
      count_is i j (get_or later j 0) l nx (λ q. st.laters j (omega (arith, nx.after)) q) el in
      let t : length (twins_of m n i) ≤ n - suc i = twins_few m n i in
      record {
        in_range = omega arith;
        next_long = simp length-set st.next_long;
        slots_long = simp length-set st.slots_long;
        chain_long = simp length-set st.chain_long;
        later_long = simp length-set st.later_long;
        nexts = extend (λ k v. Next m n k v) next n i j (omega (arith, st.next_long)) st.nexts nx;
        heads = head_more slots i st.slots_long lt st.heads s w;
        chained = record {
          linked = extend (λ k v. Next (λ x. part_slot (m x)) n k v) chain n i _ (omega (arith, st.chain_long)) st.chained.linked
              (link_more i _ s w (st.heads s sb));
        };
        laters = extend (λ k v. v ≡ length (twins_of m n k)) later n i l (omega (arith, st.later_long)) st.laters c;
        sum = sum_is i pairs l lt st.sum c;
        bound = omega (arith, st.bound);
      }

  -- before the loop
  pub begun : (next slots chain later : List ℕ) → length next ≡ 2048 → length slots ≡ 4096 → length chain ≡ 2048
      → length later ≡ 2048 → ((b : ℕ) → b < 4096 → get_or slots b 0 ≡ n)
      → State m n n next slots chain later 0
  begun next slots chain later l0 l1 l2 l3 f =
      record {
        in_range = omega arith;
        next_long = l0;
        slots_long = l1;
        chain_long = l2;
        later_long = l3;
        nexts = λ k a b. absurd (no k a b);
        heads = λ b c. rw (f b c)
            (record { from = omega arith; within = omega arith; none = λ x a d w. no x a d; hits = λ q. absurd (never q) });
        chained = record { linked = λ k a b. absurd (no k a b) };
        laters = λ k a b. absurd (no k a b);
        sum = sym (ap length (pairs_none m n n (omega arith)));
        bound = omega arith;
      }
    where
      no : (k : ℕ) → n ≤ k → k < n → ⊥
      no k a b = omega arith

      never : n < n → ⊥
      never q = omega arith

  pub turn_few : (i j l : ℕ) {next slots chain later : List ℕ} {pairs : ℕ}
      → State m n (i + 1) next slots chain later pairs → Next m n i j → l ≡ cond (leb n j) 0 (get_or later j 0 + 1)
      → l ≤ n - suc i
  turn_few i j l {later = later} st nx el =
      let e : l ≡ length (twins_of m n i) =
      count_is i j (get_or later j 0) l nx (λ q. st.laters j (omega (arith, nx.after)) q) el in
      let f : length (twins_of m n i) ≤ n - suc i = twins_few m n i in
      omega arith

  pub later_few : (i j : ℕ) {next slots chain later : List ℕ} {pairs : ℕ}
      → State m n (i + 1) next slots chain later pairs → Next m n i j → n ≤ 2048 → j < n → get_or later j 0 ≤ 2048
  later_few i j {later = later} st nx few q =
      let e : get_or later j 0 ≡ length (twins_of m n j) = st.laters j (omega (arith, nx.after)) q in
      let f : length (twins_of m n j) ≤ n - suc j = twins_few m n j in
      omega arith

pub moved : {m : ℕ → List ℕ} {n i : ℕ} {next slots chain later : List ℕ} {pairs : ℕ}
    → State m n i next slots chain later pairs → 0 < i → State m n (i - 1 + 1) next slots chain later pairs
moved {i = i} st h = let e : i - 1 + 1 ≡ i = omega arith in rw e st

-- after the loop
pub finished : (syms starts : List ℕ) (n i : ℕ) (next slots chain later : List ℕ) (pairs : ℕ)
    → State (part_at syms starts) n i next slots chain later pairs → i ≤ 0
    → (pairs ≡ length (pairs_of same (parts_of syms starts n))) × Linked (parts_of syms starts n) next × (length next ≡ 2048)
finished syms starts n i next slots chain later pairs st h =
    let e : i ≡ 0 = omega arith in
    (rw e at st.sum ∙ ap length (pairs_all syms starts n), linked_of syms starts n next (rw e at st.nexts), st.next_long)
