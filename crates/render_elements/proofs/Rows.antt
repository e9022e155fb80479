-- What each way of a row writes, and what the walk then knows. Assumes nothing.
use Prim.Native.Nat.{ℕ, ◌+◌, ◌-◌, ◌*◌, ◌%◌, ◌≤◌, ◌<◌}
use mathlib.Core.Path.{◌≡◌, refl, sym, ap, ◌∙◌}
use mathlib.Core.Bool.{Bool, true, false, cond}
use mathlib.Core.List.{List, [], ◌∷◌, ◌++◌, append-nil}
use native.Mathlib.Omega.{arith}
use lib.Dec.{eqb, leb}
use lib.ListN.{length, get_or, take, drop, set, length-take}
use borrow.Author.Tests.{eq-eqb, ne_eqb, lt-ltb, le-ltb, le-leb, lt-leb}
use Rattle.sequences.specs.Lists.{part, units_of}
use Rattle.plan.specs.Text.{text_of}
use Rattle.meaning.specs.Codes.{mark}
use Rattle.hash.specs.Hash.{hash_from, seed}
use Rattle.symbols.specs.declared.Cursor.{Cursor}
use Rattle.render_elements.specs.declared.Progress.{Progress}
use Rattle.symbols.specs.Store.{PutHashed}
use Rattle.render_elements.specs.Codes.{is_value, close_by, counted_by, value_by, codes_by, unless_out, row_by, depth_by, attribute_by, room_by}
use Rattle.symbols.specs.Values.{value_codes}
use Rattle.marks.specs.Marks.{opening_in, declared_in}
use Rattle.render_elements.specs.Effects.{Begun, RowPut, RowDone}
use Rattle.symbols.proofs.Going.{put_none, put_as, put_set}

-- ---- rooms

pub is_value_lem : (token : ℕ) → (token ≡ 0 → ⊥) → token < 0xA0 → is_value token ≡ true
is_value_lem token h l = rw (ne_eqb token 0 h, lt-ltb token 0xA0 l)

pub room_value : (token b : ℕ) → (token ≡ 0 → ⊥) → token < 0xA0 → room_by token b ≡ 6 + 5 * b
room_value token b h l =
    let n : token ≡ 0xF2 → ⊥ = λ e. let q : ⊥ = omega arith in q in
    rw (ne_eqb token 0xF2 n, ne_eqb token 0 h, lt-ltb token 0xA0 l) (omega arith)

pub room_chunk : (token b : ℕ) → token ≡ 0xF2 → room_by token b ≡ 2 + b
room_chunk token b e = rw e

pub close_few : (q : ℕ) → length (close_by q) ≤ 1
close_few q = go (eqb q 1)
  where
    go : (t : Bool) → length (cond t (mark 4 0 ∷ []) []) ≤ 1
    go true = omega arith
    go false = omega arith

pub part_few : (doc : List ℕ) (a n : ℕ) → length (take (a + n - a) (drop a doc)) ≤ n
part_few doc a n = simp length-take (omega arith)

pub span : (a n : ℕ) (l : List ℕ) → take (a + n - a) (drop a l) ≡ part l a n
span a n l = let e : a + n - a ≡ n = omega arith in rw e

-- ---- the walk's numbers after a row

pub row_as : {row row' : List ℕ} {q q' d d' : ℕ} {l l' : List ℕ} {p r : Progress} → row ≡ row' → q ≡ q' → d ≡ d' → RowPut row q d l p l' r → RowPut row' q' d' l p l' r
row_as e f g w = rw (← e, ← f, ← g) w

pub row_none : (l : List ℕ) (p r : Progress) (q d : ℕ) → r ≡ record { cursor = p.cursor; records = p.records; depth = d; attribute = q } → RowPut [] q d l p l r
unfolding hash_from
row_none l p r q d e = rw e (record { put = put_none l p.cursor.at; hash_is = refl; records_are = refl; depth_is = refl; attribute_is = refl })

pub row_hashed : {l l' xs : List ℕ} {p : Progress} {i : Cursor} (q d : ℕ) → PutHashed l p.cursor xs l' i → (r : Progress)
    → r ≡ record { cursor = i; records = p.records; depth = d; attribute = q } → RowPut xs q d l p l' r
row_hashed q d k r f = rw f (record { put = k.put; hash_is = k.hash_is; records_are = refl; depth_is = refl; attribute_is = refl })

-- ---- inside and outside of a record

pub out_none : (depth : ℕ) (l : List ℕ) → depth ≡ 0 → [] ≡ unless_out depth l
out_none depth l e = rw (eq-eqb depth 0 e)

pub out_in : (depth : ℕ) {l l' : List ℕ} → (depth ≡ 0 → ⊥) → l ≡ l' → l ≡ unless_out depth l'
out_in depth h e = rw (ne_eqb depth 0 h) e

-- outside of a record nothing is written
pub out_row : (l : List ℕ) (p r : Progress) (row : List ℕ) (q d : ℕ) → p.depth ≡ 0 → r ≡ record { cursor = p.cursor; records = p.records; depth = d; attribute = q }
    → RowPut (unless_out p.depth row) q d l p l r
out_row l p r row q d e f = row_as (out_none p.depth row e) refl refl (row_none l p r q d f)

pub close_out : (l : List ℕ) (p : Progress) (row : List ℕ) → p.depth ≡ 0 → RowPut (unless_out p.depth row) p.attribute (p.depth - 1) l p l p
close_out l p row e = row_as refl refl (let f : p.depth ≡ p.depth - 1 = omega arith in f) (out_row l p p row p.attribute p.depth e refl)

out_nothing : (depth : ℕ) → [] ≡ unless_out depth []
out_nothing depth = go (eqb depth 0)
  where
    go : (t : Bool) → [] ≡ cond {A = List ℕ} t [] []
    go true = refl
    go false = refl

-- ---- marks

pub end_mark : 65539 ∷ [] ≡ mark 3 0 ∷ []
unfolding mark
end_mark = refl

pub opened_is : (marks : List ℕ) (row x : ℕ) → x ≡ get_or marks (row - 1) 0 % 2147483648 → x ∷ [] ≡ opening_in marks row ∷ []
unfolding opening_in
opened_is marks row x e = rw e

pub close_one : (q : ℕ) → q ≡ 1 → 65540 ∷ [] ≡ close_by q
unfolding mark
close_one q e = rw e

pub close_none : (q : ℕ) → (q ≡ 1 → ⊥) → [] ≡ close_by q
close_none q h = rw (ne_eqb q 1 h)

module _ (marks : List ℕ) (row m : ℕ) (e : m ≡ get_or marks (row - 1) 0) where
  pub declared_number : (r : ℕ) → r ≡ cond (leb 2147483648 m) 2 1 → r ≡ cond (declared_in marks row) 2 1
  unfolding declared_in
  declared_number r f = f ∙ rw (← e)

  pub declared_bare : (l : List ℕ) → 2147483648 ≤ m → l ≡ l ++ cond (declared_in marks row) [] ((opening_in marks row + 1) ∷ [])
  unfolding declared_in
  declared_bare l h = rw (← e, le-leb 2147483648 m h) (sym (append-nil l))

  pub counted_mark : (l : List ℕ) → m < 2147483648 → l ++ ((m + 1) ∷ []) ≡ l ++ cond (declared_in marks row) [] ((opening_in marks row + 1) ∷ [])
  unfolding declared_in opening_in
  counted_mark l h = let f : m % 2147483648 ≡ m = omega arith in rw (← e, lt-leb 2147483648 m h, f)

-- ---- values

module _ (doc marks : List ℕ) (token a b : ℕ) where
  pub counted_qname : (x : ℕ) → x ≡ get_or marks (a - 1) 0 → token ≡ 0x8C → (x % 2147483648 + 2) ∷ [] ≡ counted_by doc marks token a b
  unfolding counted_by opening_in
  counted_qname x f e = rw (f, e)

  pub counted_zero : token ≡ 0 → [] ≡ counted_by doc marks token a b
  unfolding counted_by
  counted_zero e = rw e

  pub counted_value : (token ≡ 0x8C → ⊥) → (token ≡ 0 → ⊥) → token < 0xA0
      → value_codes token (take (a + b - a) (drop a doc)) (text_of token (take (a + b - a) (drop a doc))) ≡ counted_by doc marks token a b
  unfolding counted_by
  counted_value g f l = rw span (rw (ne_eqb token 0x8C g, ne_eqb token 0 f, lt-ltb token 0xA0 l))

  module _ (q : ℕ) where
    pub value_skipped : q ≡ 2 → [] ≡ value_by doc marks q token a b
    unfolding value_by
    value_skipped e = rw (eq-eqb q 2 e)

    pub value_counted : (q ≡ 2 → ⊥) → counted_by doc marks token a b ≡ value_by doc marks q token a b
    unfolding value_by
    value_counted h = rw (ne_eqb q 2 h)

    value_none : (token ≡ 0x8C → ⊥) → 0xA0 ≤ token → value_by doc marks q token a b ≡ []
    unfolding value_by counted_by
    value_none g l =
        let z : token ≡ 0 → ⊥ = λ e. let x : ⊥ = omega arith in x in
        rw (ne_eqb token 0x8C g, ne_eqb token 0 z, le-ltb token 0xA0 l) (go (eqb q 2))
      where
        go : (t : Bool) → cond {A = List ℕ} t [] [] ≡ []
        go true = refl
        go false = refl

-- ---- rows by their token

module _ (doc marks : List ℕ) (depth q token a b : ℕ) where
  pub row_open : token ≡ 0xF8 → opening_in marks a ∷ [] ≡ row_by doc marks depth q token a b
  unfolding row_by
  row_open e = rw e

  pub row_F7 : token ≡ 0xF7 → unless_out depth (mark 3 0 ∷ []) ≡ row_by doc marks depth q token a b
  unfolding row_by codes_by
  row_F7 e = rw e

  pub row_F6 : token ≡ 0xF6 → unless_out depth (close_by q ++ cond (declared_in marks a) [] ((opening_in marks a + 1) ∷ [])) ≡ row_by doc marks depth q token a b
  unfolding row_by codes_by
  row_F6 e = rw e

  pub row_F5 : token ≡ 0xF5 → unless_out depth (close_by q) ≡ row_by doc marks depth q token a b
  unfolding row_by codes_by
  row_F5 e = rw e

  pub row_F2 : token ≡ 0xF2 → unless_out depth (units_of (part doc a (2 * b))) ≡ row_by doc marks depth q token a b
  unfolding row_by codes_by
  row_F2 e = rw e

  row_other : (token ≡ 0xF8 → ⊥) → (token ≡ 0xF6 → ⊥) → (token ≡ 0xF5 → ⊥) → (token ≡ 0xF7 → ⊥) → (token ≡ 0xF2 → ⊥)
      → unless_out depth (value_by doc marks q token a b) ≡ row_by doc marks depth q token a b
  unfolding row_by codes_by
  row_other h0 h1 h2 h3 h4 = rw (ne_eqb token 0xF8 h0, ne_eqb token 0xF6 h1, ne_eqb token 0xF5 h2, ne_eqb token 0xF7 h3, ne_eqb token 0xF2 h4)

  pub row_value : token < 0xA0 → unless_out depth (value_by doc marks q token a b) ≡ row_by doc marks depth q token a b
  row_value l =
      row_other (λ e. let x : ⊥ = omega arith in x) (λ e. let x : ⊥ = omega arith in x) (λ e. let x : ⊥ = omega arith in x)
      (λ e. let x : ⊥ = omega arith in x) (λ e. let x : ⊥ = omega arith in x)

  pub row_silent : 0xA0 ≤ token → (token ≡ 0xF8 → ⊥) → (token ≡ 0xF6 → ⊥) → (token ≡ 0xF5 → ⊥) → (token ≡ 0xF7 → ⊥) → (token ≡ 0xF2 → ⊥)
      → [] ≡ row_by doc marks depth q token a b
  row_silent l h0 h1 h2 h3 h4 =
      let g : token ≡ 0x8C → ⊥ = λ e. let x : ⊥ = omega arith in x in
      out_nothing depth ∙ ap (unless_out depth) (sym (value_none doc marks token a b q g l)) ∙ row_other h0 h1 h2 h3 h4

module _ (marks : List ℕ) (q token a : ℕ) where
  pub attribute_F6 : token ≡ 0xF6 → cond (declared_in marks a) 2 1 ≡ attribute_by marks q token a
  unfolding attribute_by
  attribute_F6 e = rw e

  pub attribute_F5 : token ≡ 0xF5 → 0 ≡ attribute_by marks q token a
  unfolding attribute_by
  attribute_F5 e = rw e

  pub attribute_stays : (token ≡ 0xF6 → ⊥) → (token ≡ 0xF5 → ⊥) → q ≡ attribute_by marks q token a
  unfolding attribute_by
  attribute_stays h g = rw (ne_eqb token 0xF6 h, ne_eqb token 0xF5 g)

module _ (depth token : ℕ) where
  pub depth_more : token ≡ 0xF8 → depth + 1 ≡ depth_by depth token
  depth_more e = rw e

  pub depth_less : token ≡ 0xF7 → depth - 1 ≡ depth_by depth token
  depth_less e = rw e

  pub depth_same : (token ≡ 0xF8 → ⊥) → (token ≡ 0xF7 → ⊥) → depth ≡ depth_by depth token
  depth_same h g = rw (ne_eqb token 0xF8 h, ne_eqb token 0xF7 g)

-- tokens that differ
pub low_apart : (token x : ℕ) → token < 0xA0 → 0xA0 ≤ x → token ≡ x → ⊥
low_apart token x l h e = omega arith

pub apart : (token x y : ℕ) → token ≡ x → (x ≡ y → ⊥) → token ≡ y → ⊥
apart token x y e h f = h (sym e ∙ f)

-- ---- where a record begins

pub begun_deep : (starts hashes : List ℕ) (p : Progress) → (p.depth ≡ 0 → ⊥) → Begun starts hashes p starts hashes p
begun_deep starts hashes p h =
    let f : eqb p.depth 0 ≡ false = ne_eqb p.depth 0 h in
    record {
      starts_are = rw f (put_none starts p.records);
      hashes_are = rw f (put_none hashes p.records);
      at_is = refl;
      hash_is = rw f;
      depth_is = refl;
      attribute_is = refl;
    }

pub begun_here : (starts hashes : List ℕ) (p : Progress) → p.depth ≡ 0
    → Begun starts hashes p (set starts p.records p.cursor.at) (set hashes p.records p.cursor.hash)
    (record { cursor = record { at = p.cursor.at; hash = seed }; records = p.records + 1; depth = p.depth; attribute = p.attribute })
begun_here starts hashes p e =
    let f : eqb p.depth 0 ≡ true = eq-eqb p.depth 0 e in
    record {
      starts_are = rw f (put_set starts p.records p.cursor.at);
      hashes_are = rw f (put_set hashes p.records p.cursor.hash);
      at_is = refl;
      hash_is = rw f;
      depth_is = refl;
      attribute_is = refl;
    }

-- ---- a whole row

module _ (doc : List ℕ) {marks : List ℕ} {token a : ℕ} (b : ℕ) {syms starts hashes syms' starts' hashes' : List ℕ} {p r : Progress} where
  pub done_open : {o : Progress} → token ≡ 0xF8 → Begun starts hashes p starts' hashes' o → RowPut (opening_in marks a ∷ []) o.attribute (o.depth + 1) syms o syms' r
      → RowDone doc marks token a b syms starts hashes p syms' starts' hashes' r
  done_open {o} e g w =
      let f : eqb token 0xF8 ≡ true = eq-eqb token 0xF8 e in
      let x : opening_in marks a ∷ [] ≡ row_by doc marks p.depth p.attribute token a b = row_open doc marks p.depth p.attribute token a b e in
      let n : r.records ≡ o.records = w.records_are in
      let na : token ≡ 0xF6 → ⊥ = λ i. let q : ⊥ = omega arith in q in
      let nb : token ≡ 0xF5 → ⊥ = λ i. let q : ⊥ = omega arith in q in
      record {
        symbols = rw (← g.at_is) (put_as x w.put);
        starts_are = rw (f, n) g.starts_are;
        hashes_are = rw (f, n) g.hashes_are;
        depth_is = w.depth_is ∙ ap (λ (y : ℕ). y + 1) g.depth_is ∙ depth_more p.depth token e;
        attribute_is = w.attribute_is ∙ g.attribute_is ∙ attribute_stays marks p.attribute token a na nb;
        hash_is = rw (f, ← g.hash_is, ← x) w.hash_is;
      }

module _ (doc : List ℕ) {marks : List ℕ} {token a : ℕ} (b : ℕ) {syms syms' : List ℕ} (starts hashes : List ℕ) {p r : Progress} where
  pub done_inner : (token ≡ 0xF8 → ⊥) → RowPut (row_by doc marks p.depth p.attribute token a b) (attribute_by marks p.attribute token a) (depth_by p.depth token) syms p syms' r
      → RowDone doc marks token a b syms starts hashes p syms' starts hashes r
  done_inner h w =
      let f : eqb token 0xF8 ≡ false = ne_eqb token 0xF8 h in
      record {
        symbols = w.put;
        starts_are = rw (f, w.records_are) (put_none starts p.records);
        hashes_are = rw (f, w.records_are) (put_none hashes p.records);
        depth_is = w.depth_is;
        attribute_is = w.attribute_is;
        hash_is = rw f w.hash_is;
      }
