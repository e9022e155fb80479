-- A row of events adds the numbers of its event's symbols. Assumes nothing.
use Prim.Native.Nat.{ℕ, ◌+◌, ◌-◌, ◌*◌, ◌%◌, ◌≤◌, ◌<◌}
use mathlib.Core.Path.{◌≡◌, refl, sym, ◌∙◌, ap}
use mathlib.Core.Logic.{◌⊎◌, inl, inr}
use mathlib.Core.Bool.{Bool, true, false, cond}
use mathlib.Core.Option.{Option, none, some}
use mathlib.Core.List.{List, [], ◌∷◌, ◌++◌, map, append-nil}
use native.Mathlib.Omega.{arith}
use lib.Dec.{eqb, leb}
use lib.ListN.{length, get_or, length-append, length-map, length-take}
use borrow.Author.Tests.{eqb-true, eq-eqb, ne_eqb, leb-true, leb-false}
use Rattle.sequences.specs.Lists.{Bytes, part, units_of}
use Rattle.sequences.specs.Arrays.{none, first}
use Rattle.sequences.proofs.Units.{bytes_take, bytes_drop, units_long}
use Rattle.token.specs.Tokens.{class_of, shape_of}
use Rattle.token.specs.declared.Class.TheVariants as class
use Rattle.rules.specs.Rules.{lawful}
use Rattle.value.proofs.Fields.{payload_lawful, not_qname}
use Rattle.machine.specs.Machine.{EventRow, event, Event, texted, qnamed, valued, plain, event_by, event_of}
use Rattle.machine.specs.Facts as facts
use Rattle.machine.specs.Facts.{text_tokens, qname_tokens, bare_tokens, EventFits}
use Rattle.machine.specs.Tables.{name_rows_in, qname_rows_in}
use Rattle.machine.proofs.Facts.{every_one_of}
use Rattle.plan.specs.Text.{text_of}
use Rattle.meaning.specs.Meaning.{Symbol, OpenAttribute, none_open, counted, skipped, unit, attribute, qname, declares, closed, unless, shown_as, named_symbols, plain_symbols, symbols_of, attribute_after, opens, closes}
use Rattle.meaning.specs.Codes.{mark, both, codes_of}
use Rattle.meaning.proofs.Codes.{codes_append}
use Rattle.render.specs.Render.{Renderable}
use Rattle.marks.specs.Names.{class_in, uri_at, prefix_at, local_at, pair_of, Named, declares_at}
use Rattle.render_elements.specs.Codes.{attribute_of, is_value, close_by, counted_by, value_by, codes_by, row_by, attribute_by, room_by, RowFits}
use Rattle.symbols.specs.Values.{value_codes}
use Rattle.marks.specs.Marks.{opening_in, declared_in, MarksOf}
use Rattle.render_elements.proofs.Rows.{close_few, is_value_lem}
use Rattle.symbols.proofs.Rooms.{text_room_lem}
use Rattle.marks.proofs.MarkLaws.{mark_opening, mark_attribute, mark_declares, mark_counts, mark_qname}
use Rattle.render.proofs.Tokens.{value_code_lem, text_there, payload_there}
use Rattle.render.proofs.Names.{named_row, named_event, pair_both}

no_way : {A : Type 0} → false ≡ true → A
no_way e = absurd (let z : ◌≡◌ {A = ℕ} 0 1 = cc in let q : ⊥ = omega arith in q)

-- ---- symbols and their numbers

module _ (cls : List ℕ → ℕ) where
  codes_units : (us : List ℕ) → codes_of cls (map unit us) ≡ us
  unfolding codes_of
  codes_units [] = refl
  codes_units (u ∷ us) = ap (λ (l : List ℕ). u ∷ l) (codes_units us)

  codes_value : (token : ℕ) (p : List ℕ) (t : Option (List ℕ)) → codes_of cls (shown_as token p t) ≡ value_codes token p t
  unfolding codes_of
  codes_value token p none = append-nil (mark 5 token ∷ map (mark 6) p)
  codes_value token p (some us) = codes_units us

  codes_closed : (q : ℕ) → codes_of cls (closed (attribute_of q)) ≡ close_by q
  unfolding codes_of
  codes_closed q = go (eqb q 1) (eqb q 2)
    where
      go : (s t : Bool) → codes_of cls (closed (cond s counted (cond t skipped none_open))) ≡ cond s (mark 4 0 ∷ []) []
      go true t = refl
      go false true = refl
      go false false = refl

  codes_unless : (q : ℕ) (l : List Symbol) → codes_of cls (unless (attribute_of q) l) ≡ cond (eqb q 2) [] (codes_of cls l)
  unfolding codes_of
  codes_unless q l = go (eqb q 1) (eqb q 2) refl refl
    where
      go : (s t : Bool) → eqb q 1 ≡ s → eqb q 2 ≡ t → codes_of cls (unless (cond s counted (cond t skipped none_open)) l) ≡ cond t [] (codes_of cls l)
      go true true e f = absurd (let a = eqb-true q 1 e in let b = eqb-true q 2 f in let z : ⊥ = omega arith in z)
      go true false e f = refl
      go false true e f = refl
      go false false e f = refl

  codes_attribute : (q x : ℕ) (d t : Bool) (u l : List ℕ) → d ≡ t → (d ≡ false → mark 1 (both cls u l) ≡ x)
      → codes_of cls (closed (attribute_of q) ++ cond d [] (attribute u l ∷ [])) ≡ close_by q ++ cond t [] (x ∷ [])
  unfolding codes_of
  codes_attribute q x d t u l i e =
      codes_append cls (closed (attribute_of q)) (cond d [] (attribute u l ∷ [])) ∙ rw (codes_closed q) (ap (λ (z : List ℕ). close_by q ++ z) (rw (← i) (go d e)))
    where
      go : (d : Bool) → (d ≡ false → mark 1 (both cls u l) ≡ x) → codes_of cls (cond d [] (attribute u l ∷ [])) ≡ cond d [] (x ∷ [])
      go true e = refl
      go false e = rw (e refl)

-- ---- how many numbers

module _ (doc marks : List ℕ) (bytes : Bytes doc) where
  part_long : (a n : ℕ) → length (part doc a n) ≤ n
  part_long a n = simp length-take (omega arith)

  value_few : (token a b : ℕ) (t : Option (List ℕ)) → text_of token (part doc a b) ≡ t → length (value_codes token (part doc a b) t) ≤ 6 + 5 * b
  value_few token a b none e =
      let l : length (map (mark 6) (part doc a b)) ≡ length (part doc a b) = length-map (part doc a b) (mark 6) in
      omega (arith, part_long a b)
  value_few token a b (some us) e =
      let l : length us ≤ 6 + 5 * length (part doc a b) = text_room_lem token (part doc a b) us (bytes_take b (bytes_drop a bytes)) e in
      omega (arith, part_long a b)

  codes_few : (q token a b : ℕ) → length (codes_by doc marks q token a b) ≤ room_by token b
  unfolding codes_by value_by counted_by
  codes_few q token a b =
      go (eqb token 0xF8) (eqb token 0xF6) (eqb token 0xF5) (eqb token 0xF7) (eqb token 0xF2) (eqb q 2) (eqb token 0x8C) (is_value token)
    where
      two : (n : ℕ) → length (close_by q ++ cond (declared_in marks a) [] ((opening_in marks a + 1) ∷ [])) ≤ 2 + n
      two n = simp length-append (omega (arith, close_few q, one (declared_in marks a)))
        where
          one : (t : Bool) → length (cond t [] ((opening_in marks a + 1) ∷ [])) ≤ 1
          one true = omega arith
          one false = omega arith

      chunk : length (units_of (part doc a (2 * b))) ≤ 2 + b
      chunk = let u = units_long (part doc a (2 * b)) in omega (arith, u.0, part_long a (2 * b))

      shown : length (value_codes token (part doc a b) (text_of token (part doc a b))) ≤ 2 + (4 + 5 * b)
      shown = let v = value_few token a b (text_of token (part doc a b)) refl in omega arith

      go : (s t u v w x y z : Bool) → length (cond s (opening_in marks a ∷ []) (cond t (close_by q ++ cond (declared_in marks a) [] ((opening_in marks a + 1) ∷ []))
          (cond u (close_by q) (cond v (mark 3 0 ∷ []) (cond w (units_of (part doc a (2 * b)))
          (cond x [] (cond y ((opening_in marks a + 2) ∷ []) (cond z (value_codes token (part doc a b) (text_of token (part doc a b))) [])))))))) ≤ 2 + cond w b (cond z (4 + 5 * b) 0)
      go true t u v w x y z = omega arith
      go false true u v w x y z = two (cond w b (cond z (4 + 5 * b) 0))
      go false false true v w x y z = omega (arith, close_few q)
      go false false false true w x y z = omega arith
      go false false false false true x y z = chunk
      go false false false false false true y z = omega arith
      go false false false false false false true z = omega arith
      go false false false false false false false true = shown
      go false false false false false false false false = omega arith

  -- a row adds no more than its room
  pub row_few : (depth q token a b : ℕ) → length (row_by doc marks depth q token a b) ≤ room_by token b
  unfolding row_by
  row_few depth q token a b = go (eqb token 0xF8) (eqb depth 0)
    where
      go : (s t : Bool) → length (cond s (opening_in marks a ∷ []) (cond t [] (codes_by doc marks q token a b))) ≤ room_by token b
      go true t = omega arith
      go false true = omega arith
      go false false = codes_few q token a b

-- ---- rows

module _ {doc names qnames events classes marks : List ℕ} {rows qrows count : ℕ} (d : Renderable doc names qnames events classes rows qrows count)
    (M : MarksOf doc names qnames classes rows qrows marks) where
  pub record Says (e : EventRow) (ev : Event) : Type 0 where
    pub codes : (q : ℕ) → codes_of (class_in doc names rows) (symbols_of (attribute_of q) ev)
        ≡ codes_by doc marks q e.token e.a e.b
    pub after : (q : ℕ) → attribute_after (attribute_of q) ev ≡ attribute_of (attribute_by marks q e.token e.a)
    pub opens_is : opens ev ≡ eqb e.token 0xF8
    pub closes_is : closes ev ≡ eqb e.token 0xF7
    pub fits : RowFits doc e.token e.a e.b

  -- an event that adds nothing, and a token that is none of those that count
  record Quiet (ev : Event) : Type 0 where
    pub adds : (q : OpenAttribute) → symbols_of q ev ≡ []
    pub keeps : (q : OpenAttribute) → attribute_after q ev ≡ q
    pub opens_not : opens ev ≡ false
    pub closes_not : closes ev ≡ false

  record Other (x : ℕ) : Type 0 where
    pub not_F8 : eqb x 0xF8 ≡ false
    pub not_F6 : eqb x 0xF6 ≡ false
    pub not_F5 : eqb x 0xF5 ≡ false
    pub not_F7 : eqb x 0xF7 ≡ false
    pub not_F2 : eqb x 0xF2 ≡ false
    pub not_8_c : eqb x 0x8C ≡ false
    pub not_value : is_value x ≡ false

  clash : {A : Type 0} (x k : ℕ) → eqb x k ≡ false → x ≡ k → A
  clash x k h e = no_way (sym h ∙ eq-eqb x k e)

  quiet : (x p a b : ℕ) (ev : Event) → Quiet ev → Other x → Says (event x p a b) ev
  unfolding codes_of codes_by value_by counted_by attribute_by
  quiet x p a b ev z o =
      record {
        codes = λ q. rw (z.adds (attribute_of q), o.not_F8, o.not_F6, o.not_F5, o.not_F7, o.not_F2, o.not_8_c, o.not_value) (skip (eqb q 2));
        after = λ q. rw (o.not_F6, o.not_F5) (z.keeps (attribute_of q));
        opens_is = z.opens_not ∙ sym o.not_F8;
        closes_is = z.closes_not ∙ sym o.not_F7;
        fits = record {
          element = λ e. clash x 0xF8 o.not_F8 e;
          attribute = λ e. clash x 0xF6 o.not_F6 e;
          qname = λ e. clash x 0x8C o.not_8_c e;
          chunk = λ e. clash x 0xF2 o.not_F2 e;
          value = λ e f. no_way (sym o.not_value ∙ e);
        };
      }
    where
      skip : (t : Bool) → [] ≡ cond {A = List ℕ} t [] []
      skip true = refl
      skip false = refl

  still : (ev : Event) → ((q : OpenAttribute) → symbols_of q ev ≡ []) → ((q : OpenAttribute) → attribute_after q ev ≡ q) → opens ev ≡ false → closes ev ≡ false → Quiet ev
  still ev a k o c = record { adds = a; keeps = k; opens_not = o; closes_not = c }

  other : (x : ℕ) → eqb x 0xF8 ≡ false → eqb x 0xF6 ≡ false → eqb x 0xF5 ≡ false → eqb x 0xF7 ≡ false → eqb x 0xF2 ≡ false → eqb x 0x8C ≡ false → is_value x ≡ false → Other x
  other x a b c d e f g = record { not_F8 = a; not_F6 = b; not_F5 = c; not_F7 = d; not_F2 = e; not_8_c = f; not_value = g }

  -- a text that is not CDATA's
  words : (x p a u : ℕ) → Other x → Says (event x p a u) (texted x (part doc a (2 * u)))
  words x p a u o = quiet x p a u _ (still _ (λ q. rw o.not_F2) (λ q. refl) refl refl) o

  says_chunk : (p a u : ℕ) → a + 2 * u ≤ length doc → Says (event 0xF2 p a u) (texted 0xF2 (part doc a (2 * u)))
  unfolding codes_by attribute_by
  says_chunk p a u h =
      record {
        codes = λ q. codes_units (class_in doc names rows) (units_of (part doc a (2 * u)));
        after = λ q. refl;
        opens_is = refl;
        closes_is = refl;
        fits = record {
          element = λ e. clash 0xF2 0xF8 refl e;
          attribute = λ e. clash 0xF2 0xF6 refl e;
          qname = λ e. clash 0xF2 0x8C refl e;
          chunk = λ e. h;
          value = λ e f. no_way e;
        };
      }

  says_end : (p : ℕ) → Says (event 0xF7 p 0 0) (plain 0xF7)
  unfolding codes_by attribute_by plain_symbols codes_of
  says_end p =
      record {
        codes = λ q. refl;
        after = λ q. refl;
        opens_is = refl;
        closes_is = refl;
        fits = record {
          element = λ e. clash 0xF7 0xF8 refl e;
          attribute = λ e. clash 0xF7 0xF6 refl e;
          qname = λ e. clash 0xF7 0x8C refl e;
          chunk = λ e. clash 0xF7 0xF2 refl e;
          value = λ e f. no_way e;
        };
      }

  says_closing : (p : ℕ) → Says (event 0xF5 p 0 0) (plain 0xF5)
  unfolding codes_by attribute_by plain_symbols
  says_closing p =
      record {
        codes = λ q. codes_closed (class_in doc names rows) q;
        after = λ q. refl;
        opens_is = refl;
        closes_is = refl;
        fits = record {
          element = λ e. clash 0xF5 0xF8 refl e;
          attribute = λ e. clash 0xF5 0xF6 refl e;
          qname = λ e. clash 0xF5 0x8C refl e;
          chunk = λ e. clash 0xF5 0xF2 refl e;
          value = λ e f. no_way e;
        };
      }

  module _ (p a : ℕ) (from : 1 ≤ a) (to : a ≤ qrows) where
    abbrev here : ℕ → Event
    here token = qnamed token (uri_at doc names qnames rows a) (prefix_at doc names qnames rows a) (local_at doc names qnames rows a)

    n : Named doc names qnames classes rows a
    n = named_row d a from to

    index : (1 ≤ a) × (a ≤ 1024)
    index = (from, omega (arith, d.filled.qfew))

    referred : (k : ℕ) → eqb k 0xF2 ≡ false → (is_value k ≡ true → (k ≡ 0x8C → ⊥) → ⊥) → RowFits doc k a 0
    referred k h g =
        record {
          element = λ e. index;
          attribute = λ e. index;
          qname = λ e. index;
          chunk = λ e. clash k 0xF2 h e;
          value = λ e f. absurd (g e f);
        }

    says_element : Says (event 0xF8 p a 0) (here 0xF8)
    unfolding codes_by attribute_by named_symbols codes_of opening_in
    says_element =
        record {
          codes = λ q. ap (λ (x : ℕ). x ∷ []) (ap (mark 0) (pair_both n) ∙ sym (mark_opening M a from to _ refl));
          after = λ q. refl;
          opens_is = refl;
          closes_is = refl;
          fits = referred 0xF8 refl (λ e f. no_way e);
        }

    declared_is : declares (uri_at doc names qnames rows a) (prefix_at doc names qnames rows a) (local_at doc names qnames rows a) ≡ declared_in marks a
    unfolding declared_in declares_at
    declared_is = go (leb 2147483648 (get_or marks (a - 1) 0)) refl
      where
        go : (t : Bool) → leb 2147483648 (get_or marks (a - 1) 0) ≡ t → declares_at doc names qnames rows a ≡ leb 2147483648 (get_or marks (a - 1) 0)
        go true e = mark_declares M a from to _ refl (leb-true _ _ e) ∙ sym e
        go false e = mark_counts M a from to _ refl (leb-false _ _ e) ∙ sym e

    says_attribute : Says (event 0xF6 p a 0) (here 0xF6)
    unfolding codes_by attribute_by named_symbols declares_at opening_in
    says_attribute =
        record {
          codes = λ q. codes_attribute (class_in doc names rows) q _ _ (declared_in marks a) _ _ declared_is
              (λ f. ap (mark 1) (pair_both n) ∙ one (mark_attribute M a from to _ refl f));
          after = λ q. ap (λ (t : Bool). cond t skipped counted) declared_is ∙ turned (declared_in marks a);
          opens_is = refl;
          closes_is = refl;
          fits = referred 0xF6 refl (λ e f. no_way e);
        }
      where
        turned : (t : Bool) → cond t skipped counted ≡ attribute_of (cond t 2 1)
        turned true = refl
        turned false = refl

        one : (get_or marks (a - 1) 0 < 2147483648) × (get_or marks (a - 1) 0 + 1 ≡ mark 1 (pair_of qnames classes a)) → mark 1 (pair_of qnames classes a) ≡ get_or marks (a - 1) 0 % 2147483648 + 1
        one (h, e) = sym e ∙ (let f : get_or marks (a - 1) 0 + 1 ≡ get_or marks (a - 1) 0 % 2147483648 + 1 = omega arith in f)

    says_qname : Says (event 0x8C p a 0) (here 0x8C)
    unfolding codes_by value_by counted_by attribute_by named_symbols codes_of opening_in
    says_qname =
        record {
          codes = λ q. codes_unless (class_in doc names rows) q (qname (uri_at doc names qnames rows a) (local_at doc names qnames rows a) ∷ [])
              ∙ ap (λ (x : ℕ). cond (eqb q 2) [] (x ∷ [])) (ap (mark 2) (pair_both n) ∙ sym (mark_qname M a from to _ refl));
          after = λ q. refl;
          opens_is = refl;
          closes_is = refl;
          fits = referred 0x8C refl (λ e f. f refl);
        }

  module _ (k p a s : ℕ) (low : (0 < k) × (k < 0xA0)) (no : eqb k 0x8C ≡ false) (h : a + s ≤ length doc) (law : lawful (shape_of k) (part doc a s) ≡ true) where
    far : (x : ℕ) → 0xA0 ≤ x → eqb k x ≡ false
    far x l = ne_eqb k x (λ e. let q : ⊥ = omega (arith, low.1) in q)

    says_value : Says (event k p a s) (valued k (part doc a s))
    unfolding codes_by value_by counted_by attribute_by
    says_value =
        let f8 : eqb k 0xF8 ≡ false = far 0xF8 (omega arith) in
        let f6 : eqb k 0xF6 ≡ false = far 0xF6 (omega arith) in
        let f5 : eqb k 0xF5 ≡ false = far 0xF5 (omega arith) in
        let f7 : eqb k 0xF7 ≡ false = far 0xF7 (omega arith) in
        let f2 : eqb k 0xF2 ≡ false = far 0xF2 (omega arith) in
        let v : is_value k ≡ true = is_value_lem k (λ e. let q : ⊥ = omega (arith, low.0) in q) low.1 in
        record {
          codes = λ q. codes_unless (class_in doc names rows) q (shown_as k (part doc a s) (text_of k (part doc a s)))
              ∙ rw (f8, f6, f5, f7, f2, no, v) (ap (λ (l : List ℕ). cond (eqb q 2) [] l) (codes_value (class_in doc names rows) k (part doc a s) (text_of k (part doc a s))));
          after = λ q. rw (f6, f5);
          opens_is = sym f8;
          closes_is = sym f7;
          fits = record {
            element = λ e. clash k 0xF8 f8 e;
            attribute = λ e. clash k 0xF6 f6 e;
            qname = λ e. clash k 0x8C no e;
            chunk = λ e. clash k 0xF2 f2 e;
            value = λ e f. (h, law, omega (arith, d.filled.short));
          };
        }

  says_row : (token p row : ℕ) (ev : Event) → ev ≡ qnamed token (uri_at doc names qnames rows row) (prefix_at doc names qnames rows row) (local_at doc names qnames rows row)
      → Says (event token p row 0) (qnamed token (uri_at doc names qnames rows row) (prefix_at doc names qnames rows row) (local_at doc names qnames rows row)) → Says (event token p row 0) ev
  says_row token p row ev e s = rw e s

  silent : (x : ℕ) → Other x → (q : OpenAttribute) → plain_symbols q x ≡ []
  unfolding plain_symbols
  silent x o q = rw (o.not_F7, o.not_F5)

  none_of : (x p : ℕ) → Other x → Says (event x p 0 0) (plain x)
  none_of x p o = quiet x p 0 0 _ (still _ (λ q. silent x o q) (λ q. rw o.not_F5) refl o.not_F7) o

  pub says : {e : EventRow} {next : ℕ} → EventFits doc rows qrows e next → Says e (event_of doc (name_rows_in rows names) (qname_rows_in qrows qnames) e)
  unfolding event_of class_of
  says (facts.standalone {place = p} {value = v} l) = quiet 0 p v 0 _ (still _ (λ q. refl) (λ q. refl) refl refl) (other 0 refl refl refl refl refl refl refl)
  says (facts.texted {token = k} {place = p} {a = a} {units = u} t e) =
      let i = text_there doc (p + 1) e in
      every_one_of text_tokens (λ (x : ℕ). Says (event x p a u) (event_of doc (name_rows_in rows names) (qname_rows_in qrows qnames) (event x p a u))) k
      (first (words 0xFE p a u (other 0xFE refl refl refl refl refl refl refl)) (first (words 0xFD p a u (other 0xFD refl refl refl refl refl refl refl))
      (first (words 0xFC p a u (other 0xFC refl refl refl refl refl refl refl)) (first (words 0xFB p a u (other 0xFB refl refl refl refl refl refl refl))
      (first (words 0xFA p a u (other 0xFA refl refl refl refl refl refl refl)) (first (words 0xF9 p a u (other 0xF9 refl refl refl refl refl refl refl))
      (first (words 0xF3 p a u (other 0xF3 refl refl refl refl refl refl refl)) (first (says_chunk p a u i.1) none)))))))) t
  says (facts.pi {place = p} {row = row} {start = s} r l e) = quiet 0xF4 p row s _ (still _ (λ q. refl) (λ q. refl) refl refl) (other 0xF4 refl refl refl refl refl refl refl)
  says (facts.reference {token = k} {place = p} {row = row} t a b l h) =
      every_one_of qname_tokens (λ (x : ℕ). Says (event x p row 0) (event_of doc (name_rows_in rows names) (qname_rows_in qrows qnames) (event x p row 0))) k
      (first (says_row 0xF8 p row _ (named_event doc names qnames rows qrows 0xF8 row a b) (says_element p row a b))
      (first (says_row 0xF6 p row _ (named_event doc names qnames rows qrows 0xF6 row a b) (says_attribute p row a b))
      (first (says_row 0x8C p row _ (named_event doc names qnames rows qrows 0x8C row a b) (says_qname p row a b)) none))) t
  says (facts.nested {place = p} {version = v} a b) = quiet 0xEC p v 0 _ (still _ (λ q. refl) (λ q. refl) refl refl) (other 0xEC refl refl refl refl refl refl refl)
  says (facts.bare {token = k} {place = p} t) =
      every_one_of bare_tokens (λ (x : ℕ). Says (event x p 0 0) (event_of doc (name_rows_in rows names) (qname_rows_in qrows qnames) (event x p 0 0))) k
      (first (says_end p) (first (says_closing p) (first (none_of 0xF1 p (other 0xF1 refl refl refl refl refl refl refl))
      (first (none_of 0xEB p (other 0xEB refl refl refl refl refl refl refl)) none)))) t
  says (facts.value {token = k} {place = p} {a = a} {size = n} c e) =
      let i = payload_there doc (shape_of k) p e in
      let l = payload_lawful (shape_of k) doc p e in
      let b = not_qname k (part doc a n) l in
      by_class c (says_value k p a n (value_code_lem k c) b i.1 l) b
    where
      by_class : (class_of k ≡ class.Value) ⊎ (class_of k ≡ class.LaterValue) → Says (event k p a n) (valued k (part doc a n)) → eqb k 0x8C ≡ false
          → Says (event k p a n) (event_by (class_of k) doc (name_rows_in rows names) (qname_rows_in qrows qnames) (event k p a n))
      by_class (inl c) m b = rw (c, b) m
      by_class (inr c) m b = rw c m
