-- Rows of qnames with equal keys have equal texts; and the loop that fills the classes. Assumes nothing.
use Prim.Native.Nat.{ℕ, zero, suc, ◌+◌, ◌*◌, ◌≤◌, ◌<◌, min}
use mathlib.Core.Path.{◌≡◌, refl, ap, sym, ◌∙◌}
use mathlib.Core.Bool.{Bool, true, cond}
use mathlib.Core.Option.{some}
use mathlib.Core.List.{List, [], ◌∷◌}
use native.Mathlib.Omega.{arith}
use native.Mathlib.Numerals.{add-one}
use lib.Dec.{eqb, ltb}
use borrow.Author.Tests.{eq-eqb, eqb-true}
use lib.ListN.{length, get_or, get_elem?, set}
use Rattle.sequences.specs.Arrays.{Front, Every}
use Rattle.sequences.proofs.Overlay.{front_at}
use Rattle.machine.specs.Machine.{NameRow, QnameRow, qname_row, name_text}
use Rattle.machine.specs.Facts.{QnameFits}
use Rattle.machine.specs.Tables.{name_rows_in, qname_rows_in}
use Rattle.machine.proofs.Tables.{length_name_rows, qname_row_at, length_qname_rows, at_some, every_at}
use Rattle.form.specs.Canonical.{Triple, same_triple, number_of, qnumber_of}
use Rattle.form.proofs.Places.{tells_triple}
use Rattle.classes.specs.Classes.{texts_of, name_classes, triple_of, triples_of, qname_classes}
use Rattle.classes.specs.Search.{class_at, key_of, Keyable, key_at}
use Rattle.classes.specs.Tree.{Tree, Spot}
use Rattle.classes.proofs.Classes.{place_own, same_class, class_text_fact, name_class_at, name_text_at, length_classes, triples_at, qname_class_at, length_qclasses}
use Rattle.classes.proofs.Keys.{key_apart}
use Rattle.classes.proofs.FirstValues.{FirstValues, values_none, values_next, values_front}
use Rattle.classes.proofs.Trees.{tree_none, tree_next, class_chosen}
use Rattle.token.specs.Tokens.{qname_width}

module _ (doc : List ℕ) (N : List NameRow) (classes : List ℕ) (few : length N ≤ 1024) (front : Front (name_classes doc N) classes) where
  class_is : (x : ℕ) → x ≤ length N → class_at classes x ≡ number_of (texts_of doc N) (name_text doc N x)
  unfolding name_text number_of
  class_is zero h = refl
  class_is (suc k) h =
      let s = at_some N k (omega arith) in
      let l : k < length (name_classes doc N) = omega (arith, length_classes doc N) in
      front_at (name_classes doc N) classes k l front ∙ name_class_at doc N k s.1 ∙ ap (number_of (texts_of doc N)) (sym (name_text_at doc N k s.1))

  pub keyable : (x : ℕ) → x ≤ length N → Keyable classes x
  keyable x h =
      let c = (class_text_fact doc N x h).0 in
      record { row_in = omega arith; class_in_fact = omega (arith, class_is x h) }

  -- rows of names with one class have one text
  class_same : (x y : ℕ) → x ≤ length N → y ≤ length N → class_at classes x ≡ class_at classes y → name_text doc N x ≡ name_text doc N y
  class_same x y h i e =
      same_class (texts_of doc N) _ _ (class_text_fact doc N x h).2 (class_text_fact doc N y i).2 (sym (class_is x h) ∙ e ∙ class_is y i)

  text_same : (x y : ℕ) → x ≤ length N → y ≤ length N → name_text doc N x ≡ name_text doc N y → class_at classes x ≡ class_at classes y
  text_same x y h i e = class_is x h ∙ ap (number_of (texts_of doc N)) e ∙ sym (class_is y i)

  key_for : QnameRow → ℕ
  key_for q = key_of (class_at classes q.uri) (class_at classes q.prefix) (class_at classes q.local)

  key_triple : (q r : QnameRow) → QnameFits (length N) q → QnameFits (length N) r → key_for q ≡ key_for r → triple_of doc N q ≡ triple_of doc N r
  unfolding key_for
  key_triple q r f g e =
      let low : (x : ℕ) → x ≤ length N → class_at classes x ≤ 1024 = λ x h. (keyable x h).class_in_fact in
      let k =
      key_apart _ _ _ _ _ _ (low q.uri f.uri_in) (low q.prefix f.prefix_in) (low q.local f.local_in_fact) (low r.uri g.uri_in)
      (low r.prefix g.prefix_in) (low r.local g.local_in_fact) e in
      rw (
        class_same q.uri r.uri f.uri_in g.uri_in k.0,
        class_same q.prefix r.prefix f.prefix_in g.prefix_in k.1,
        class_same q.local r.local f.local_in_fact g.local_in_fact k.2,
      )

  triple_key : (q r : QnameRow) → QnameFits (length N) q → QnameFits (length N) r → triple_of doc N q ≡ triple_of doc N r → key_for q ≡ key_for r
  unfolding key_for
  triple_key q r f g e =
      rw (
        text_same q.uri r.uri f.uri_in g.uri_in (ap (λ (t : Triple). t.uri) e),
        text_same q.prefix r.prefix f.prefix_in g.prefix_in (ap (λ (t : Triple). t.prefix) e),
        text_same q.local r.local f.local_in_fact g.local_in_fact (ap (λ (t : Triple). t.local) e),
      )

-- the tree's values are lists: a key is the list of itself, and its own hash
abbrev pub key_hash : List ℕ → ℕ
key_hash l = get_or l 0 0

abbrev pub key_list : List ℕ → List ℕ → ℕ → List ℕ
key_list qnames classes k = key_at qnames classes k ∷ []

-- what the test of two keys tells
pub keys_told : (a k x y : ℕ) (b : Bool) → b ≡ eqb a k → a ≡ x → k ≡ y → (b ≡ true → x ∷ [] ≡ y ∷ []) × (x ∷ [] ≡ y ∷ [] → b ≡ true)
keys_told a k x y b e i j =
    (λ h. ap (λ (z : ℕ). z ∷ []) (sym i ∙ eqb-true a k (sym e ∙ h) ∙ j), λ q. e ∙ eq-eqb a k (i ∙ ap key_hash q ∙ sym j))

-- row k of a table of qnames
abbrev qname_at : List ℕ → ℕ → QnameRow
qname_at qnames k = qname_row (get_or qnames (qname_width * k) 0) (get_or qnames (qname_width * k + 1) 0) (get_or qnames (qname_width * k + 2) 0)

-- its three texts
abbrev triple_at : List ℕ → List NameRow → List ℕ → ℕ → Triple
triple_at doc N qnames k = triple_of doc N (qname_at qnames k)

module _ (doc names : List ℕ) (rows : ℕ) (qnames : List ℕ) (count : ℕ) (classes : List ℕ) where
  abbrev class_for : ℕ → ℕ
  class_for k = get_or (qname_classes doc (name_rows_in rows names) (qname_rows_in count qnames)) k 0

  -- the keys of the rows before r are stored, and the rows are in the tree and have their classes
  pub record Keyed (qclasses tree keys : List ℕ) (r : ℕ) : Type 0 where
    pub within : r ≤ count
    pub keyed : FirstValues (key_at qnames classes) r keys
    pub treed : Tree key_hash (key_list qnames classes) r tree
    pub classed : FirstValues class_for r qclasses

  pub keyed_none : (qclasses tree keys : List ℕ) → length qclasses ≡ 1024 → length tree ≡ 4087 → length keys ≡ 1024
      → ((p : ℕ) → p < 4087 → get_or tree p 0 ≡ 1024) → Keyed qclasses tree keys 0
  keyed_none qclasses tree keys l h i f =
      record { within = omega arith; keyed = values_none i; treed = tree_none _ _ tree h f; classed = values_none l }

  pub keyed_all : (qclasses tree keys : List ℕ) (r : ℕ) → Keyed qclasses tree keys r → count ≤ r → count ≤ 1024
      → Front (qname_classes doc (name_rows_in rows names) (qname_rows_in count qnames)) qclasses × (length qclasses ≡ 1024)
  keyed_all qclasses tree keys r x h b =
      let n = length_qclasses doc (name_rows_in rows names) (qname_rows_in count qnames) ∙ length_qname_rows count qnames in
      (values_front _ x.classed (omega (arith, n)) (omega (arith, x.within)), x.classed.long)

  module _ (few : rows ≤ 1024) (front : Front (name_classes doc (name_rows_in rows names)) classes)
      (fits : Every (QnameFits rows) (qname_rows_in count qnames)) where
    few_rows : length (name_rows_in rows names) ≤ 1024
    few_rows = rw (length_name_rows rows names) few

    qname_fits : (k : ℕ) → k < count → QnameFits (length (name_rows_in rows names)) (qname_at qnames k)
    qname_fits k h = rw (length_name_rows rows names) (every_at fits k (qname_row_at count qnames k h))

    pub keyables : (k : ℕ) → k < count
        → Keyable classes (get_or qnames (qname_width * k) 0) × Keyable classes (get_or qnames (qname_width * k + 1) 0) × Keyable classes (get_or qnames (qname_width * k + 2) 0)
    keyables k h =
        let f = qname_fits k h in
        let g = keyable doc (name_rows_in rows names) classes few_rows front in
        (g _ f.uri_in, g _ f.prefix_in, g _ f.local_in_fact)

    -- keys tell the texts of two rows
    key_same : (j k : ℕ) → j < count → k < count → key_at qnames classes j ≡ key_at qnames classes k
        → triple_at doc (name_rows_in rows names) qnames j ≡ triple_at doc (name_rows_in rows names) qnames k
    unfolding key_at key_for
    key_same j k h i e =
        key_triple doc (name_rows_in rows names) classes few_rows front (qname_at qnames j) (qname_at qnames k) (qname_fits j h) (qname_fits k i) e

    same_key : (j k : ℕ) → j < count → k < count → triple_at doc (name_rows_in rows names) qnames j ≡ triple_at doc (name_rows_in rows names) qnames k
        → key_at qnames classes j ≡ key_at qnames classes k
    unfolding key_at key_for
    same_key j k h i e =
        triple_key doc (name_rows_in rows names) classes few_rows front (qname_at qnames j) (qname_at qnames k) (qname_fits j h) (qname_fits k i) e

    triple_at_fact : (k : ℕ) → k < count
        → get_elem? (triples_of doc (name_rows_in rows names) (qname_rows_in count qnames)) k ≡ some (triple_at doc (name_rows_in rows names) qnames k)
    triple_at_fact k h = triples_at doc (name_rows_in rows names) (qname_rows_in count qnames) k (qname_row_at count qnames k h)

    class_at_fact : (k : ℕ) → k < count → class_for k ≡ qnumber_of (triples_of doc (name_rows_in rows names) (qname_rows_in count qnames)) (triple_at doc (name_rows_in rows names) qnames k)
    class_at_fact k h = qname_class_at doc (name_rows_in rows names) (qname_rows_in count qnames) k (qname_row_at count qnames k h)

    -- no row before r has its key
    key_own : (r : ℕ) → r < count → ((k : ℕ) → k < r → key_at qnames classes k ≡ key_at qnames classes r → ⊥) → r + 1 ≡ class_for r
    unfolding qnumber_of
    key_own r l n =
        let q =
        place_own same_triple tells_triple (triples_of doc (name_rows_in rows names) (qname_rows_in count qnames)) (λ k. triple_at doc (name_rows_in rows names) qnames k) r
        (λ k h. triple_at_fact k (omega arith)) (λ k h e. n k h (same_key k r (omega arith) l e)) in
        add-one r ∙ sym (class_at_fact r l ∙ ap suc q)

    pub keyed_next : (qclasses tree keys tree' : List ℕ) (r key p c : ℕ) → Keyed qclasses tree keys r → r < count → count ≤ 1024
        → key ≡ key_at qnames classes r → Spot key_hash (key_list qnames classes) r tree p
        → c ≡ cond (ltb (get_or tree p 0) 1024) (get_or qclasses (get_or tree p 0) 0) (r + 1)
        → tree' ≡ set tree p (min (get_or tree p 0) r) → Keyed (set qclasses r c) tree' (set keys r key) (r + 1)
    keyed_next qclasses tree keys tree' r key p c x l few-keys e s i n =
        let b : r < 1024 = omega arith in
        let same : (k : ℕ) → k < r → key_list qnames classes k ≡ key_list qnames classes r → class_for k ≡ class_for r =
        λ k h q. class_at_fact k (omega arith)
        ∙ ap (qnumber_of (triples_of doc (name_rows_in rows names) (qname_rows_in count qnames))) (key_same k r (omega arith) l (ap key_hash q))
        ∙ sym (class_at_fact r l) in
        record {
          within = omega arith;
          keyed = values_next key x.keyed b e;
          treed = rw n (tree_next x.treed p s b);
          classed = values_next c x.classed b
              (class_chosen x.treed p s b (r + 1) c x.classed same (λ n. key_own r l (λ k h q. n k h (ap (λ (z : ℕ). z ∷ []) q))) i);
        }
