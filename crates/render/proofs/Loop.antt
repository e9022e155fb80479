-- What the arrays hold when k rows are done, and that one more keeps it so. Assumes nothing.
use Prim.Native.Nat.{ℕ, zero, suc, ◌+◌, ◌-◌, ◌*◌, ◌≤◌, ◌<◌, min}
use mathlib.Core.Path.{◌≡◌, refl, sym, ap, ◌∙◌}
use mathlib.Core.Bool.{Bool, true, false, cond}
use mathlib.Core.List.{List, [], ◌∷◌, ◌++◌, map, append_assoc, append-nil}
use native.Mathlib.Omega.{arith}
use native.Mathlib.Numerals.{add-one}
use lib.Dec.{eqb}
use lib.ListN.{length, get_or, drop, set, length-append, length-map, drop_of_length-le}
use borrow.Author.Tests.{eqb-true, ne_eqb}
use Rattle.sequences.specs.Lists.{Bytes}
use Rattle.machine.specs.Machine.{EventRow, event, Event, event_of}
use Rattle.machine.specs.Tables.{name_rows_in, qname_rows_in, event_rows_in, events_in}
use Rattle.machine.proofs.Tables.{event_rows_from, length_event_rows}
use Rattle.meaning.specs.Meaning.{Symbol, OpenAttribute, none_open, symbols_of, attribute_after, depth_after, inside, begins, onto, new_if, pieces, rest, meanings}
use Rattle.meaning.specs.Codes.{codes_of}
use Rattle.meaning.proofs.Codes.{codes_append}
use Rattle.hash.specs.Hash.{hash_from, hash_of, seed}
use Rattle.render_elements.specs.declared.Progress.{Progress}
use Rattle.render.specs.Render.{Renderable, Rendered, room_for}
use Rattle.marks.specs.Names.{class_in}
use Rattle.symbols.specs.Store.{NumbersPut}
use Rattle.render_elements.specs.Codes.{attribute_of, codes_by, row_by, begins_by, depth_by, room_by, RowFits}
use Rattle.marks.specs.Marks.{opening_in, MarksOf}
use Rattle.render_elements.specs.Effects.{RowDone}
use Rattle.symbols.proofs.Going.{put_put, put_none, put_long, put_as, put_set}
use Rattle.render.proofs.Tokens.{Ahead, ahead_of, ahead_le, fits_room}
use Rattle.render.proofs.Says.{Says, says, row_few}
use Rattle.render.proofs.Sums.{flat, sums, later, flat_snoc, sums_long, flat_new, sums_new, hashes_new, hash_new, cut_here, parts_here, hashes_here}
use Rattle.token.specs.Tokens.{event_width}

-- ---- symbols so far, at a row that begins a record or does not

onto_onto : (a b : List Symbol) (ps : List (List Symbol)) → onto a (onto b ps) ≡ onto (a ++ b) ps
onto_onto a b [] = refl
onto_onto a b (p ∷ ps) = ap (λ (l : List Symbol). l ∷ ps) (sym (append_assoc a b p))

whole_new : (s : Bool) (done : List (List Symbol)) (cur x : List Symbol) (ps : List (List Symbol))
    → done ++ onto cur (new_if s (onto x ps)) ≡ cond s (done ++ (cur ∷ [])) done ++ onto (cond s x (cur ++ x)) ps
whole_new true done cur x ps = rw append-nil (sym (append_assoc done (cur ∷ []) (onto x ps)))
whole_new false done cur x ps = ap (λ (l : List (List Symbol)). done ++ l) (onto_onto cur x ps)

module _ (cls : List ℕ → ℕ) where
  map_snoc : (done : List (List Symbol)) (cur : List Symbol) → map (codes_of cls) (done ++ (cur ∷ [])) ≡ map (codes_of cls) done ++ (codes_of cls cur ∷ [])
  map_snoc [] cur = refl
  map_snoc (x ∷ done) cur = ap (λ (l : List (List ℕ)). codes_of cls x ∷ l) (map_snoc done cur)

  done_codes : (s : Bool) (done : List (List Symbol)) (cur : List Symbol)
      → cond s (map (codes_of cls) done ++ (codes_of cls cur ∷ [])) (map (codes_of cls) done) ≡ map (codes_of cls) (cond s (done ++ (cur ∷ [])) done)
  done_codes true done cur = sym (map_snoc done cur)
  done_codes false done cur = refl

  cur_codes : (s : Bool) (cur x : List Symbol) → cond s (codes_of cls x) (codes_of cls cur ++ codes_of cls x) ≡ codes_of cls (cond s x (cur ++ x))
  cur_codes true cur x = refl
  cur_codes false cur x = sym (codes_append cls cur x)

  later_codes : (ps : List (List Symbol)) → later (map (codes_of cls) ps) ≡ map (codes_of cls) (rest ps)
  later_codes [] = refl
  later_codes (p ∷ ps) = refl

rest_onto : (ps : List (List Symbol)) → rest (onto [] ps) ≡ rest ps
rest_onto [] = refl
rest_onto (p ∷ ps) = refl

rest_long : (ps : List (List Symbol)) → length (rest ps) ≡ length ps - 1
rest_long [] = refl
rest_long (p ∷ ps) = omega arith

-- ---- depth and number of records

count_new : (s : Bool) (at n n' : ℕ) → n' ≡ n + length (cond s (at ∷ []) []) → n' ≡ n + cond s 1 0
count_new true at n n' e = e
count_new false at n n' e = e

-- a record begins at depth 0 only, and then the depth is 1
deep : (d t n n' k : ℕ) → n' ≡ n + cond (begins_by d t) 1 0 → 2 * n ≤ k + min 1 d → 2 * n' ≤ k + 1 + min 1 (depth_by d t)
deep d t n n' k e h = go (eqb t 0xF8) (eqb t 0xF7) (eqb d 0) refl e
  where
    go : (s u v : Bool) → eqb d 0 ≡ v → n' ≡ n + cond (cond s v false) 1 0 → 2 * n' ≤ k + 1 + min 1 (cond s (d + 1) (cond u (d - 1) d))
    go true u true w f = let z : d ≡ 0 = eqb-true d 0 w in omega arith
    go true u false w f = omega arith
    go false true v w f = omega arith
    go false false v w f = omega arith

depth_few : (d t : ℕ) → depth_by d t ≤ d + 1
depth_few d t = go (eqb t 0xF8) (eqb t 0xF7)
  where
    go : (s u : Bool) → cond s (d + 1) (cond u (d - 1) d) ≤ d + 1
    go true u = omega arith
    go false true = omega arith
    go false false = omega arith

-- ---- an event and its row

codes_open : (doc marks : List ℕ) (q token a b : ℕ) → eqb token 0xF8 ≡ true → codes_by doc marks q token a b ≡ opening_in marks a ∷ []
unfolding codes_by
codes_open doc marks q token a b e = rw e

module _ {doc names qnames events classes marks : List ℕ} {rows qrows count : ℕ} (d : Renderable doc names qnames events classes rows qrows count)
    (M : MarksOf doc names qnames classes rows qrows marks) {e : EventRow} {ev : Event} (s : Says d M e ev) where
  begins_is : (depth : ℕ) → begins depth ev ≡ begins_by depth e.token
  begins_is zero = s.opens_is ∙ go (eqb e.token 0xF8)
    where
      go : (t : Bool) → t ≡ cond t true false
      go true = refl
      go false = refl
  begins_is (suc depth) = rw (ne_eqb (suc depth) 0 (λ z. let x : ⊥ = omega arith in x)) (go (eqb e.token 0xF8))
    where
      go : (t : Bool) → false ≡ cond t false false
      go true = refl
      go false = refl

  depth_is : (depth : ℕ) → depth_after depth ev ≡ depth_by depth e.token
  unfolding depth_after
  depth_is depth = rw (s.opens_is, s.closes_is, add-one)

  emit_is : (depth q : ℕ) → codes_of (class_in doc names rows) (cond (inside depth ev) (symbols_of (attribute_of q) ev) [])
      ≡ row_by doc marks depth q e.token e.a e.b
  unfolding row_by codes_of
  emit_is zero q = rw s.opens_is (go (eqb e.token 0xF8) refl)
    where
      go : (t : Bool) → eqb e.token 0xF8 ≡ t → codes_of (class_in doc names rows) (cond t (symbols_of (attribute_of q) ev) [])
          ≡ cond t (opening_in marks e.a ∷ []) []
      go true f = s.codes q ∙ codes_open doc marks q e.token e.a e.b f
      go false f = refl
  emit_is (suc depth) q = rw (ne_eqb (suc depth) 0 (λ z. let x : ⊥ = omega arith in x)) (go (eqb e.token 0xF8) refl)
    where
      go : (t : Bool) → eqb e.token 0xF8 ≡ t → codes_of (class_in doc names rows) (symbols_of (attribute_of q) ev)
          ≡ cond t (opening_in marks e.a ∷ []) (codes_by doc marks q e.token e.a e.b)
      go true f = s.codes q ∙ codes_open doc marks q e.token e.a e.b f
      go false f = s.codes q

pieces_step : (depth : ℕ) (q : OpenAttribute) (e : Event) (es : List Event)
    → pieces depth q (e ∷ es) ≡ new_if (begins depth e) (onto (cond (inside depth e) (symbols_of q e) []) (pieces (depth_after depth e) (attribute_after q e) es))
unfolding pieces
pieces_step depth q e es = refl

pieces_end : (depth : ℕ) (q : OpenAttribute) → pieces depth q [] ≡ [] ∷ []
unfolding pieces
pieces_end depth q = refl

-- ---- the loop

-- k rows are done: `done` and `cur` are the meanings so far, p is the place after the rows
pub record RowsDone (doc names qnames events : List ℕ) (rows qrows count : ℕ) (syms₀ starts₀ hashes₀ syms starts hashes : List ℕ) (k : ℕ) (progress : Progress) : Type 0 where
  pub done : List (List Symbol)
  pub cur : List Symbol
  pub p : ℕ
  pub last : ℕ
  pub last_in : last ≤ length doc
  pub whole : done ++ onto cur (pieces progress.depth (attribute_of progress.attribute) (map (event_of doc (name_rows_in rows names) (qname_rows_in qrows qnames)) (drop k (event_rows_in count events))))
      ≡ onto [] (pieces 0 none_open (map (event_of doc (name_rows_in rows names) (qname_rows_in qrows qnames)) (event_rows_in count events)))
  pub syms_are : NumbersPut syms₀ 0 (flat (map (codes_of (class_in doc names rows)) done) ++ codes_of (class_in doc names rows) cur) syms progress.cursor.at
  pub starts_are : NumbersPut starts₀ 0 (sums 0 (map (codes_of (class_in doc names rows)) done)) starts progress.records
  pub hashes_are : NumbersPut hashes₀ 0 (map hash_of (map (codes_of (class_in doc names rows)) done)) hashes progress.records
  pub hash_is : progress.cursor.hash ≡ hash_of (codes_of (class_in doc names rows) cur)
  pub ahead : Ahead doc rows qrows p (drop k (event_rows_in count events)) last
  pub at_few : progress.cursor.at ≤ 5 * p + 2 * k
  pub n_few : 2 * progress.records ≤ k + min 1 progress.depth
  pub shallow : progress.depth ≤ k
  pub reached : k ≤ count

module _ {doc names qnames events classes : List ℕ} {rows qrows count : ℕ} (d : Renderable doc names qnames events classes rows qrows count) where
  pub rows_first : (syms starts hashes : List ℕ) → RowsDone doc names qnames events rows qrows count syms starts hashes syms starts hashes 0
      (record { cursor = record { at = 0; hash = seed }; records = 0; depth = 0; attribute = 0 })
  unfolding codes_of hash_from
  rows_first syms starts hashes =
      record {
        done = [];
        cur = [];
        p = 0;
        last = d.filled.last;
        last_in = d.filled.inside;
        whole = refl;
        syms_are = put_none syms 0;
        starts_are = put_none starts 0;
        hashes_are = put_none hashes 0;
        hash_is = refl;
        ahead = ahead_of doc rows qrows d.filled.events_fit;
        at_few = omega arith;
        n_few = omega arith;
        shallow = omega arith;
        reached = omega arith;
      }

  module _ {syms₀ starts₀ hashes₀ syms starts hashes : List ℕ} {k : ℕ} {progress : Progress} (w : RowsDone doc names qnames events rows qrows count syms₀ starts₀ hashes₀ syms starts hashes k progress) where
    pub n_small : progress.records ≤ 2048
    n_small = omega (arith, w.n_few, w.reached, d.filled.efew)

    pub syms_long : length syms ≡ length syms₀
    syms_long = put_long w.syms_are

    pub starts_long : length starts ≡ length starts₀
    starts_long = put_long w.starts_are

    pub hashes_long : length hashes ≡ length hashes₀
    hashes_long = put_long w.hashes_are

    module _ {marks : List ℕ} (M : MarksOf doc names qnames classes rows qrows marks) (h : k < count) where
      abbrev row : EventRow
      row = event (get_or events (event_width * k) 0) (get_or events (event_width * k + 1) 0) (get_or events (event_width * k + 2) 0) (get_or events (event_width * k + 3) 0)

      here : Ahead doc rows qrows w.p (row ∷ drop (suc k) (event_rows_in count events)) w.last
      here = rw (event_rows_from count events k h) at w.ahead

      said : Says d M row (event_of doc (name_rows_in rows names) (qname_rows_in qrows qnames) row)
      said = says d M here.2

      -- what the row adds fits between p and the next place, which is inside the document
      reach : (room_by row.token row.b + 5 * w.p ≤ 5 * here.0 + 2) × (here.0 ≤ length doc)
      reach =
          let s = fits_room doc rows qrows here.2 in
          let l = ahead_le doc rows qrows here.0 (drop (suc k) (event_rows_in count events)) w.last here.3 in
          (omega (arith, here.1), omega (arith, w.last_in))

      rows_next : Bytes doc → {syms' starts' hashes' : List ℕ} {r : Progress} → RowDone doc marks row.token row.a row.b syms starts hashes progress syms' starts' hashes' r
          → RowsDone doc names qnames events rows qrows count syms₀ starts₀ hashes₀ syms' starts' hashes' (k + 1) r
      rows_next bytes {r = r} y =
          let cls : List ℕ → ℕ = class_in doc names rows in
          let ev : Event = event_of doc (name_rows_in rows names) (qname_rows_in qrows qnames) row in
          let s : Bool = begins_by progress.depth row.token in
          let x : List Symbol = cond (inside progress.depth ev) (symbols_of (attribute_of progress.attribute) ev) [] in
          let es : List Event = map (event_of doc (name_rows_in rows names) (qname_rows_in qrows qnames)) (drop (suc k) (event_rows_in count events)) in
          let e1 : k + 1 ≡ suc k = omega arith in
          let ex : row_by doc marks progress.depth progress.attribute row.token row.a row.b ≡ codes_of cls x = sym (emit_is d M said progress.depth progress.attribute) in
          let fe : length (row_by doc marks progress.depth progress.attribute row.token row.a row.b) ≤ room_by row.token row.b
          = row_few doc marks bytes progress.depth progress.attribute row.token row.a row.b in
          let dn : depth_by progress.depth row.token ≤ progress.depth + 1 = depth_few progress.depth row.token in
          let pc : pieces progress.depth (attribute_of progress.attribute) (ev ∷ es) ≡ new_if s (onto x (pieces r.depth (attribute_of r.attribute) es))
          = pieces_step progress.depth (attribute_of progress.attribute) ev es ∙ rw (begins_is d M said progress.depth, depth_is d M said progress.depth, said.after progress.attribute, y.depth_is, y.attribute_is) in
          let wh : w.done ++ onto w.cur (pieces progress.depth (attribute_of progress.attribute) (ev ∷ es)) ≡ onto [] (pieces 0 none_open (map (event_of doc (name_rows_in rows names) (qname_rows_in qrows qnames)) (event_rows_in count events)))
          = rw (event_rows_from count events k h) at w.whole in
          record {
            done = cond s (w.done ++ (w.cur ∷ [])) w.done;
            cur = cond s x (w.cur ++ x);
            p = here.0;
            last = w.last;
            last_in = w.last_in;
            whole = rw e1 (sym (whole_new s w.done w.cur x (pieces r.depth (attribute_of r.attribute) es)) ∙ ap (λ (l : List (List Symbol)). w.done ++ onto w.cur l) (sym pc) ∙ wh);
            syms_are = put_as
                (ap (λ (l : List ℕ). (flat (map (codes_of cls) w.done) ++ codes_of cls w.cur) ++ l) ex
                ∙ flat_new s (map (codes_of cls) w.done) (codes_of cls w.cur) (codes_of cls x)
                ∙ rw (done_codes cls s w.done w.cur, cur_codes cls s w.cur x))
                (put_put w.syms_are y.symbols);
            starts_are = put_as
                (sums_new s (map (codes_of cls) w.done) (codes_of cls w.cur) progress.cursor.at w.syms_are.to_is ∙ ap (sums 0) (done_codes cls s w.done w.cur))
                (put_put w.starts_are y.starts_are);
            hashes_are = put_as
                (hashes_new s (map (codes_of cls) w.done) (codes_of cls w.cur) progress.cursor.hash w.hash_is ∙ ap (map hash_of) (done_codes cls s w.done w.cur))
                (put_put w.hashes_are y.hashes_are);
            hash_is = y.hash_is ∙ ap (hash_from (cond s seed progress.cursor.hash)) ex ∙ hash_new s (codes_of cls w.cur) (codes_of cls x) progress.cursor.hash w.hash_is ∙ ap hash_of (cur_codes cls s w.cur x);
            ahead = rw e1 here.3;
            at_few = omega (arith, y.symbols.to_is, w.at_few, reach.0);
            n_few = rw y.depth_is (deep progress.depth row.token progress.records r.records k (count_new s progress.cursor.at progress.records r.records y.starts_are.to_is) w.n_few);
            shallow = rw y.depth_is (omega (arith, w.shallow));
            reached = omega arith;
          }

      -- the same, of numbers that were read
      module _ (token a : ℕ) (et : token ≡ get_or events (event_width * k) 0) (ea : a ≡ get_or events (event_width * k + 2) 0) where
        pub row_fits : RowFits doc token a (get_or events (event_width * k + 3) 0)
        row_fits = rw (et, ea) said.fits

        pub row_room : room_for (length doc) count ≤ length syms₀ → progress.cursor.at + room_by token (get_or events (event_width * k + 3) 0) ≤ length syms
        row_room g = rw et (omega (arith, reach.0, reach.1, w.at_few, syms_long))

        pub rows_turn : Bytes doc → {syms' starts' hashes' : List ℕ} {r : Progress} → RowDone doc marks token a (get_or events (event_width * k + 3) 0) syms starts hashes progress syms' starts' hashes' r
            → RowsDone doc names qnames events rows qrows count syms₀ starts₀ hashes₀ syms' starts' hashes' (k + 1) r
        rows_turn bytes y = rows_next bytes (rw (et, ea) at y)

    pub rows_end_fact : count ≤ k → room_for (length doc) count ≤ length syms₀ → length starts₀ ≡ 2049 → length hashes₀ ≡ 2049
        → Rendered doc names qnames events rows qrows count syms (set starts progress.records progress.cursor.at) (set hashes progress.records progress.cursor.hash) progress.records
    unfolding events_in meanings
    rows_end_fact h hs ht hh =
        let cls : List ℕ → ℕ = class_in doc names rows in
        let n : ℕ = progress.records in
        let evs : List Event = map (event_of doc (name_rows_in rows names) (qname_rows_in qrows qnames)) (event_rows_in count events) in
        let ps : List (List Symbol) = w.done ++ (w.cur ∷ []) in
        let cs : List (List ℕ) = map (codes_of cls) ps in
        let e0 : drop k (event_rows_in count events) ≡ [] = drop_of_length-le (event_rows_in count events) (let l : length (event_rows_in count events) ≤ k = omega (arith, length_event_rows count events) in l) in
        let e1 : w.done ++ onto w.cur (pieces progress.depth (attribute_of progress.attribute) []) ≡ onto [] (pieces 0 none_open evs) = rw e0 at w.whole in
        let e2 : w.done ++ ((w.cur ++ []) ∷ []) ≡ onto [] (pieces 0 none_open evs) = rw (pieces_end progress.depth (attribute_of progress.attribute)) at e1 in
        let e3 : ps ≡ onto [] (pieces 0 none_open evs) = ap (λ (l : List Symbol). w.done ++ (l ∷ [])) (sym (append-nil w.cur)) ∙ e2 in
        let e4 : rest ps ≡ rest (pieces 0 none_open evs) = ap rest e3 ∙ rest_onto (pieces 0 none_open evs) in
        let c1 : map (codes_of cls) w.done ++ (codes_of cls w.cur ∷ []) ≡ cs = sym (map_snoc cls w.done w.cur) in
        let a1 : NumbersPut starts₀ 0 (sums 0 (map (codes_of cls) w.done) ++ (progress.cursor.at ∷ [])) (set starts n progress.cursor.at) (n + 1) = put_put w.starts_are (put_set starts n progress.cursor.at) in
        let a2 : sums 0 (map (codes_of cls) w.done) ++ (progress.cursor.at ∷ []) ≡ sums 0 cs
        = sums_new true (map (codes_of cls) w.done) (codes_of cls w.cur) progress.cursor.at w.syms_are.to_is ∙ ap (sums 0) c1 in
        let g1 : NumbersPut hashes₀ 0 (map hash_of (map (codes_of cls) w.done) ++ (progress.cursor.hash ∷ [])) (set hashes n progress.cursor.hash) (n + 1) = put_put w.hashes_are (put_set hashes n progress.cursor.hash) in
        let g2 : map hash_of (map (codes_of cls) w.done) ++ (progress.cursor.hash ∷ []) ≡ map hash_of cs
        = hashes_new true (map (codes_of cls) w.done) (codes_of cls w.cur) progress.cursor.hash w.hash_is ∙ ap (map hash_of) c1 in
        let b1 : flat (map (codes_of cls) w.done) ++ codes_of cls w.cur ≡ flat cs = sym (flat_snoc (map (codes_of cls) w.done) (codes_of cls w.cur)) ∙ ap flat c1 in
        let f1 : progress.cursor.at ≡ 0 + length (flat cs) = w.syms_are.to_is ∙ ap (λ (l : List ℕ). 0 + length l) b1 in
        let f2 : length ps ≡ suc n = simp length-append (omega (arith, w.starts_are.to_is, sums_long 0 (map (codes_of cls) w.done), length-map w.done (codes_of cls))) in
        let f3 : length cs ≡ suc n = length-map ps (codes_of cls) ∙ f2 in
        let f4 : w.p ≤ w.last = ahead_le doc rows qrows w.p (drop k (event_rows_in count events)) w.last w.ahead in
        let f5 : length (flat cs) ≤ length syms₀ = omega (arith, w.at_few, w.reached, w.last_in) in
        let f6 : length cs ≤ length starts₀ = omega (arith, n_small) in
        let f7 : length cs ≤ length hashes₀ = omega (arith, n_small) in
        record {
          number_is = sym (rw (← e4) (rest_long ps ∙ (let z : length ps - 1 ≡ n = omega arith in z)));
          few = n_small;
          starts_long = put_long a1 ∙ ht;
          hashes_long = put_long g1 ∙ hh;
          cut = rw (a1.stored, a2, w.syms_are.stored, b1) (cut_here cs syms₀ starts₀ f5 f6 n f3);
          parts_are = rw (a1.stored, a2, w.syms_are.stored, b1, ← e4) (parts_here cs syms₀ starts₀ f5 f6 n f3 ∙ later_codes cls ps);
          hashes_are = λ i l. rw (g1.stored, g2, a1.stored, a2, w.syms_are.stored, b1) (hashes_here cs syms₀ starts₀ f5 f6 n f3 hashes₀ f7 i l);
        }
