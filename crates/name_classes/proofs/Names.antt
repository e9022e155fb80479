-- The tree, hashes and classes of the rows of names, and the loop that fills them. Assumes nothing.
use Prim.Native.Nat.{ℕ, suc, ◌+◌, ◌-◌, ◌*◌, ◌≤◌, ◌<◌, min}
use mathlib.Core.Path.{◌≡◌, ap, sym, ◌∙◌}
use mathlib.Core.Bool.{true, false, cond}
use mathlib.Core.Option.{some}
use mathlib.Core.List.{List}
use native.Mathlib.Omega.{arith}
use native.Mathlib.Numerals.{add-one}
use lib.Dec.{eqb, ltb}
use lib.ListN.{length, get_or, get_elem?, set, take, drop}
use borrow.Author.Tests.{eqb-true, eqb-false}
use Rattle.sequences.specs.Lists.{part, same}
use Rattle.sequences.specs.Arrays.{Front}
use Rattle.sequences.proofs.Overlay.{part_length}
use Rattle.sequences.proofs.Tests.{cond_if}
use Rattle.machine.specs.Tables.{name_rows_in, NamesInside}
use Rattle.machine.proofs.Tables.{name_row_at, length_name_rows}
use Rattle.form.specs.Canonical.{number_of}
use Rattle.form.proofs.Places.{tells_text}
use Rattle.classes.specs.Classes.{texts_of, name_classes}
use Rattle.classes.specs.Search.{row_text_at}
use Rattle.classes.specs.Tree.{Tree, Spot}
use Rattle.classes.proofs.Classes.{place_own, number_some, number_empty, texts_at, name_class_at, length_classes}
use Rattle.classes.proofs.FirstValues.{FirstValues, values_none, values_next, values_front}
use Rattle.classes.proofs.Trees.{tree_none, tree_next, class_chosen}
use Rattle.name_classes.specs.Texts.{text_hash}

-- the rows up to row r
pub table_to : {doc names : List ℕ} {count r : ℕ} → NamesInside doc names count → r < count → NamesInside doc names (r + 1)
table_to x l = record { few = omega arith; long = omega arith; short = x.short; inside = λ k h. x.inside k (omega arith) }

-- the text of a row, of which the place and the units are read, as a part from a place to a place
pub text_part : (doc : List ℕ) (x y g₀ g₁ : ℕ) → x ≡ g₀ → y ≡ g₁ → take (x + 2 * y - x) (drop x doc) ≡ part doc g₀ (2 * g₁)
text_part doc x y g₀ g₁ a b = let i : x + 2 * y - x ≡ 2 * y = omega arith in rw (i, a, b)

module _ (doc names : List ℕ) (count : ℕ) where
  abbrev class_for : ℕ → ℕ
  class_for k = get_or (name_classes doc (name_rows_in count names)) k 0

  text_at_fact : (k : ℕ) → k < count → get_elem? (texts_of doc (name_rows_in count names)) k ≡ some (row_text_at doc names k)
  text_at_fact k h = texts_at doc (name_rows_in count names) k (name_row_at count names k h)

  class_at_fact : (k : ℕ) → k < count → class_for k ≡ number_of (texts_of doc (name_rows_in count names)) (row_text_at doc names k)
  class_at_fact k h = name_class_at doc (name_rows_in count names) k (name_row_at count names k h)

  -- no row before r has its text
  name_own : (r own : ℕ) → NamesInside doc names count → r < count → own ≡ cond (eqb (get_or names (2 * r + 1) 0) 0) 0 (r + 1)
      → ((k : ℕ) → k < r → row_text_at doc names k ≡ row_text_at doc names r → ⊥) → own ≡ class_for r
  name_own r own x l e n = e ∙ cond_if (λ (v : ℕ). v ≡ number_of T (row_text_at doc names r)) (eqb units 0) 0 (r + 1) empty other ∙ sym (class_at_fact r l)
    where
      T : List (List ℕ)
      T = texts_of doc (name_rows_in count names)

      units : ℕ
      units = get_or names (2 * r + 1) 0

      empty : eqb units 0 ≡ true → 0 ≡ number_of T (row_text_at doc names r)
      empty t = let z : units ≡ 0 = eqb-true units 0 t in rw z (sym (number_empty T))

      other : eqb units 0 ≡ false → r + 1 ≡ number_of T (row_text_at doc names r)
      other t =
          let z : units ≡ 0 → ⊥ = eqb-false units 0 t in
          let s : length (row_text_at doc names r) ≡ 2 * units = part_length doc _ _ (x.inside r l) in
          let p : 0 < length (row_text_at doc names r) = omega (arith, z) in
          let q = place_own same tells_text T (λ k. row_text_at doc names k) r (λ k h. text_at_fact k (omega arith)) n in
          add-one r ∙ sym (number_some T (row_text_at doc names r) p ∙ ap suc q)

  -- the rows before r are in the tree, and have their hashes and classes
  pub record Made (classes tree hashes : List ℕ) (r : ℕ) : Type 0 where
    pub within : r ≤ count
    pub treed : Tree text_hash (row_text_at doc names) r tree
    pub hashed : FirstValues (λ k. text_hash (row_text_at doc names k)) r hashes
    pub classed : FirstValues class_for r classes

  pub made_none : (classes tree hashes : List ℕ) → length classes ≡ 1024 → length tree ≡ 4087 → length hashes ≡ 1024
      → ((p : ℕ) → p < 4087 → get_or tree p 0 ≡ 1024) → Made classes tree hashes 0
  made_none classes tree hashes l h i f =
      record { within = omega arith; treed = tree_none _ _ tree h f; hashed = values_none i; classed = values_none l }

  pub made_next : (classes tree hashes tree' : List ℕ) (r h p own c : ℕ) → Made classes tree hashes r → NamesInside doc names count → r < count
      → h ≡ text_hash (row_text_at doc names r) → Spot text_hash (row_text_at doc names) r tree p
      → own ≡ cond (eqb (get_or names (2 * r + 1) 0) 0) 0 (r + 1) → c ≡ cond (ltb (get_or tree p 0) 1024) (get_or classes (get_or tree p 0) 0) own
      → tree' ≡ set tree p (min (get_or tree p 0) r) → Made (set classes r c) tree' (set hashes r h) (r + 1)
  made_next classes tree hashes tree' r h p own c x t l e s o i n =
      let same : (k : ℕ) → k < r → row_text_at doc names k ≡ row_text_at doc names r → class_for k ≡ class_for r =
      λ k h q. class_at_fact k (omega arith) ∙ ap (number_of (texts_of doc (name_rows_in count names))) q ∙ sym (class_at_fact r l) in
      let b : r < 1024 = omega (arith, t.few) in
      record {
        within = omega arith;
        treed = rw n (tree_next x.treed p s b);
        hashed = values_next h x.hashed b e;
        classed = values_next c x.classed b (class_chosen x.treed p s b own c x.classed same (name_own r own t l o) i);
      }

  pub made_all : (classes tree hashes : List ℕ) (r : ℕ) → Made classes tree hashes r → count ≤ r → count ≤ 1024
      → Front (name_classes doc (name_rows_in count names)) classes × (length classes ≡ 1024)
  made_all classes tree hashes r x h b =
      let n = length_classes doc (name_rows_in count names) ∙ length_name_rows count names in
      (values_front _ x.classed (omega (arith, n)) (omega (arith, x.within)), x.classed.long)
