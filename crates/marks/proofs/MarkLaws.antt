-- The table of marks: how it is filled row by row, and what a mark tells. Assumes nothing.
use Prim.Native.Nat.{ℕ, ◌+◌, ◌-◌, ◌*◌, ◌%◌, ◌≤◌, ◌<◌}
use mathlib.Core.Path.{◌≡◌, refl, ◌∙◌}
use mathlib.Core.Bool.{Bool, true, false, cond}
use mathlib.Core.Logic.{◌⊎◌, inl, inr, ⊎_elim}
use mathlib.Core.List.{List}
use native.Mathlib.Nat.{eq-or-lt_of_le}
use native.Mathlib.Omega.{arith}
use lib.ListN.{length, get_or, set, length-set}
use lib.Seq.{get_or-set_same, get_or-set_other}
use Rattle.classes.specs.Search.{class_at}
use Rattle.meaning.specs.Codes.{mark}
use Rattle.marks.specs.Names.{pair_of, declares_at}
use Rattle.marks.specs.Marks.{mark_of, MarksOf}
use Rattle.token.specs.Tokens.{qname_width}

-- ---- a row's mark

pub pair_is : (qnames classes : List ℕ) (row u v : ℕ) → u ≡ class_at classes (get_or qnames (qname_width * (row - 1)) 0)
    → v ≡ class_at classes (get_or qnames (qname_width * (row - 1) + 2) 0) → 1025 * u + v ≡ pair_of qnames classes row
unfolding pair_of
pair_is qnames classes row u v e f = rw (e, f)

pub small_as : {p x : ℕ} → p ≡ x → p ≤ 1050624 → x ≤ 1050624
small_as e h = omega arith

module _ (doc names qnames classes : List ℕ) (rows row p : ℕ) (e : p ≡ pair_of qnames classes row) where
  pub mark_more : declares_at doc names qnames rows row ≡ true → 65536 + 8 * p + 2147483648 ≡ mark_of doc names qnames classes rows row
  unfolding mark_of mark
  mark_more t = rw t (omega arith)

  pub mark_alone : declares_at doc names qnames rows row ≡ false → 65536 + 8 * p ≡ mark_of doc names qnames classes rows row
  unfolding mark_of mark
  mark_alone t = rw t (omega arith)

-- ---- filled row by row

pub marks_none : (doc names qnames classes : List ℕ) (rows : ℕ) (marks : List ℕ) → length marks ≡ 1024 → MarksOf doc names qnames classes rows 0 marks
marks_none doc names qnames classes rows marks e =
    record {
      long = e;
      each = λ row l h. absurd (let q : ⊥ = omega arith in q);
      small = λ row l h. absurd (let q : ⊥ = omega arith in q);
    }

module _ {doc names qnames classes marks : List ℕ} {rows k : ℕ} (M : MarksOf doc names qnames classes rows k marks) where
  pub marks_next : k < 1024 → (v : ℕ) → (v ≡ mark_of doc names qnames classes rows (k + 1)) × (pair_of qnames classes (k + 1) ≤ 1050624)
      → MarksOf doc names qnames classes rows (k + 1) (set marks k v)
  marks_next b v e =
      record {
        long = length-set marks k v ∙ M.long;
        each = λ row l h. ⊎_elim (λ i. last row i) (λ i. old row l (omega arith)) (eq-or-lt_of_le h);
        small = λ row l h. ⊎_elim (λ i. rw i e.1) (λ i. M.small row l (omega arith)) (eq-or-lt_of_le h);
      }
    where
      last : (row : ℕ) → row ≡ k + 1 → get_or (set marks k v) (row - 1) 0 ≡ mark_of doc names qnames classes rows row
      last row i =
          let j : k + 1 - 1 ≡ k = omega arith in
          let n : k < length marks = omega (arith, M.long) in
          rw (i, j) (get_or-set_same marks k v 0 n ∙ e.0)

      old : (row : ℕ) → 1 ≤ row → row ≤ k → get_or (set marks k v) (row - 1) 0 ≡ mark_of doc names qnames classes rows row
      old row l h = get_or-set_other marks k (row - 1) v 0 (λ i. let q : ⊥ = omega arith in q) ∙ M.each row l h

  pub marks_all : (qrows : ℕ) → k ≤ qrows → qrows ≤ k → MarksOf doc names qnames classes rows qrows marks
  marks_all qrows h l = let e : k ≡ qrows = omega arith in rw e at M

-- ---- what a mark tells

module _ {doc names qnames classes marks : List ℕ} {rows qrows : ℕ} (M : MarksOf doc names qnames classes rows qrows marks)
    (row : ℕ) (from : 1 ≤ row) (to : row ≤ qrows) (m : ℕ) (e : m ≡ get_or marks (row - 1) 0) where
  ways : ((declares_at doc names qnames rows row ≡ true) × (m ≡ 65536 + 8 * pair_of qnames classes row + 2147483648))
      ⊎ ((declares_at doc names qnames rows row ≡ false) × (m ≡ 65536 + 8 * pair_of qnames classes row))
  unfolding mark_of mark
  ways = go (declares_at doc names qnames rows row) refl (e ∙ M.each row from to)
    where
      go : (t : Bool) → declares_at doc names qnames rows row ≡ t → m ≡ 65536 + 8 * pair_of qnames classes row + 0 + cond t 2147483648 0
          → ((declares_at doc names qnames rows row ≡ true) × (m ≡ 65536 + 8 * pair_of qnames classes row + 2147483648))
          ⊎ ((declares_at doc names qnames rows row ≡ false) × (m ≡ 65536 + 8 * pair_of qnames classes row))
      go true f g = inl (f, omega arith)
      go false f g = inr (f, omega arith)

  few : pair_of qnames classes row ≤ 1050624
  few = M.small row from to

  pub mark_opening : m % 2147483648 ≡ mark 0 (pair_of qnames classes row)
  unfolding mark
  mark_opening = ⊎_elim (λ w. omega (arith, few)) (λ w. omega (arith, few)) ways

  pub mark_attribute : declares_at doc names qnames rows row ≡ false → (m < 2147483648) × (m + 1 ≡ mark 1 (pair_of qnames classes row))
  unfolding mark
  mark_attribute d =
      ⊎_elim (λ w. absurd (let z : ◌≡◌ {A = ℕ} 0 1 = cc in let q : ⊥ = omega arith in q)) (λ w. (omega (arith, few), omega arith)) ways

  pub mark_declares : 2147483648 ≤ m → declares_at doc names qnames rows row ≡ true
  mark_declares h = ⊎_elim (λ w. w.0) (λ w. absurd (let q : ⊥ = omega (arith, few) in q)) ways

  pub mark_counts : m < 2147483648 → declares_at doc names qnames rows row ≡ false
  mark_counts h = ⊎_elim (λ w. absurd (let q : ⊥ = omega arith in q)) (λ w. w.0) ways

  pub mark_qname : m % 2147483648 + 2 ≡ mark 2 (pair_of qnames classes row)
  unfolding mark
  mark_qname = ⊎_elim (λ w. omega (arith, few)) (λ w. omega (arith, few)) ways

  pub mark_small : (m < 2147483648 + 2147483648) × (m % 2147483648 + 2 < 4294967296)
  mark_small = ⊎_elim (λ w. (omega (arith, few), omega arith)) (λ w. (omega (arith, few), omega arith)) ways
