-- The walk before each row of events: what is still to be written completes the form. Assumes nothing.
use Prim.Native.Nat.{ℕ, zero, suc, ◌+◌, ◌*◌, ◌/◌, ◌≤◌, ◌<◌}
use mathlib.Core.Path.{◌≡◌, refl, sym, ◌∙◌, ap, subst}
use mathlib.Core.Logic.{◌⊎◌, inl, inr}
use mathlib.Core.Bool.{Bool, true, false}
use mathlib.Core.Option.{some}
use mathlib.Core.List.{List, [], ◌∷◌, ◌++◌, map}
use native.Mathlib.Omega.{arith}
use lib.Dec.{ltb, leb}
use lib.ListN.{length, get_or, drop, length-append, length-take, length-drop, drop_of_length-le}
use lib.Seq.{sets}
use Rattle.sequences.specs.Lists.{part}
use Rattle.sequences.proofs.Overlay.{sets_append}
use Rattle.token.specs.Tokens.{shape_of, name_rows, nested_documents}
use Rattle.token.specs.declared.Shape.{Shape}
use Rattle.token.specs.declared.Shape.TheVariants.{Nothing, Fixed, Text, Blob, CodePage, Decimal, Qname, Stamp, Date, Time, ZonedTime}
use borrow.Author.Tests.{ltb-true, ltb-false, leb-true, leb-false}
use Rattle.value.specs.Fields.{text_at}
use Rattle.value.specs.declared.Text as texts
use Rattle.std.specs.Prelude.{Result, Ok, Err}
use Rattle.token.specs.declared.Refusal.{Refusal}
use Rattle.machine.specs.Machine.{NameRow, QnameRow, EventRow, Event, data_in, event_of}
use Rattle.machine.specs.Balance.{Opened, check}
use Rattle.machine.specs.Tables.{class_count}
use Rattle.form.specs.Canonical.{Scopes, emit, scopes_after, body, header_of, length_of, with_units}
use Rattle.form_output.specs.Output.{Fits, Put}
use Rattle.form_output.proofs.Laws.{shortest_few, put_length}
use Rattle.form_slots.specs.Slots.{slots_after, number_in, parts_at, Low, PartsFit, Cleared, Trails, region}
use Rattle.form_slots.proofs.TrailLaws.{trails_cleared}
use Rattle.form_names.proofs.Names.{slots_low, names_low, slots_trails, names_trails}
use Rattle.form_slots.proofs.Slots.{low_more, parts_more}
use Rattle.form_names.proofs.Steps.{bytes_few, counted_few, qname_few}
use Rattle.form_items.specs.declared.Spot.{Spot}
use Rattle.form_items.specs.declared.Item.{Item}
use Rattle.form_items.specs.declared.Item.TheVariants.{Byte, Texted, Pi, Refer, Valued, Nest, Leave}
use Rattle.form_items.specs.Items.{item_of}
use Rattle.form_items.specs.Walk.{Tables, before, pi_bytes, refer_bytes, bytes_for, NamesKept, QnamesKept, nested_after, Turned, Ready, ItemFits}
use Rattle.form_items.proofs.Writes.{parts_fit}
use Rattle.classes.specs.Search.{class_at}
use Rattle.rewriter.proofs.ItemLaws as items
use Rattle.rewriter.proofs.ItemLaws.{Meets}
use Rattle.rewriter.proofs.Depth.{Deeper, docs, Next, next}
use Rattle.rewriter.proofs.Acts.{Said, Kept, acts, bytes_of}

-- ---- an item's bytes are few, and its numbers low

data_few : (doc : List ℕ) (t : Result texts.Text Refusal) → length (with_units (data_in doc t)) ≤ 5 + length doc
unfolding with_units
data_few doc (Ok t) = counted_few doc t.place (2 * t.units)
data_few doc (Err r) = let h = shortest_few 0 in simp length-append (omega arith)

length_few : (shape : Shape) (p : List ℕ) → length (length_of shape p) ≤ 5
unfolding length_of
length_few Nothing p = omega arith
length_few (Fixed size) p = omega arith
length_few (Text most) p = shortest_few (length p / 2)
length_few (Blob most) p = shortest_few (length p)
length_few (CodePage most) p = shortest_few (length p)
length_few Decimal p = shortest_few (length p)
length_few Qname p = omega arith
length_few (Stamp low) p = omega arith
length_few (Date first last) p = omega arith
length_few (Time first last) p = omega arith
length_few (ZonedTime first last) p = omega arith

part_few : (doc : List ℕ) (place size : ℕ) → length (part doc place size) ≤ length doc
part_few doc place size = rw (length-take, length-drop) (omega arith)

item_few : (t : Tables) (slots qslots : List ℕ) (base : ℕ) (item : Item) → length t.doc ≤ 65536 → length (bytes_for t slots qslots base item) ≤ 400000
unfolding pi_bytes refer_bytes header_of
item_few t slots qslots base (Byte value) h = omega arith
item_few t slots qslots base (Texted token place units) h = let a = counted_few t.doc place (2 * units) in omega arith
item_few t slots qslots base (Pi row start) h =
    let a = bytes_few t.doc t.names slots base (class_at t.classes row) in
    let b = data_few t.doc (text_at 5 t.doc start) in
    let c = shortest_few (number_in (slots_after slots base (class_at t.classes row)) base (class_at t.classes row)) in
    rw (length-append, length-append) (omega arith)
item_few t slots qslots base (Refer token row) h =
    let a = qname_few t.doc t.names slots qslots base (parts_at t.qnames t.classes (before row)) (class_at t.qclasses row) in
    let b = shortest_few (number_in (slots_after qslots base (class_at t.qclasses row)) base (class_at t.qclasses row)) in
    rw length-append (omega arith)
item_few t slots qslots base (Valued token place size) h =
    let a = length_few (shape_of token) (part t.doc place size) in
    let b = part_few t.doc place size in
    rw length-append (omega arith)
item_few t slots qslots base (Nest version) h = omega arith
item_few t slots qslots base Leave h = omega arith

cleared_low : {most : ℕ} {slots slots' : List ℕ} {base : ℕ} → Cleared slots slots' base → Low most slots → Low most slots'
cleared_low {most} {slots} {slots'} {base} x l = record { long = x.long ∙ l.long; each = λ k. at k (leb base k) refl }
  where
    past : (k : ℕ) → base ≤ k → (t : Bool) → ltb k (base + class_count) ≡ t → get_or slots' k 0 ≤ most
    past k h true e = rw (x.inside k h (ltb-true _ _ e)) (omega arith)
    past k h false e = rw (x.over k (ltb-false _ _ e)) (l.each k)

    at : (k : ℕ) → (t : Bool) → leb base k ≡ t → get_or slots' k 0 ≤ most
    at k true e = past k (leb-true _ _ e) (ltb k (base + class_count)) refl
    at k false e = rw (x.under k (leb-false _ _ e)) (l.each k)

-- ---- what the slots keep: numbers that are low, and trails

pub record Held (most : ℕ) (slots : List ℕ) : Type 0 where
  pub low : Low most slots
  pub trails : Trails slots

held_more : {m n : ℕ} {slots : List ℕ} → m ≤ n → Held m slots → Held n slots
held_more h x = record { low = low_more h x.low; trails = x.trails }

-- `most` is no less than a class
module _ (t : Tables) (rows qrows : ℕ) (ready : Ready t rows qrows) (depth : ℕ) (shallow : depth ≤ nested_documents) (most : ℕ) (wide : name_rows ≤ most) where
  -- the names of a reference's qname are classes
  parts_few : (row : ℕ) → 1 ≤ row → row ≤ qrows → PartsFit name_rows (parts_at t.qnames t.classes (before row))
  parts_few zero a b = absurd (let q : ⊥ = omega arith in q)
  parts_few (suc k) a b = parts_more ready.texts.few (parts_fit ready b)

  class_held : {slots : List ℕ} (class : ℕ) → class ≤ name_rows → Held most slots → Held (most + 3) (slots_after slots (region * depth) class)
  class_held {slots} class small x =
      record {
        low = low_more (omega arith) (slots_low most slots (region * depth) class (omega arith) x.low);
        trails = slots_trails depth shallow slots class small x.low.long x.trails;
      }

  cleared_held : {slots slots' : List ℕ} → Cleared slots slots' (region * depth + region) → Held most slots → Held (most + 3) slots'
  cleared_held {slots} {slots'} e x =
      let i : region * depth + region ≡ region * suc depth = omega arith in
      let e' : Cleared slots slots' (region * suc depth) = rw i at e in
      record { low = low_more (omega arith) (cleared_low e x.low); trails = trails_cleared x.trails (suc depth) e' }

  names_held : (slots qslots slots' : List ℕ) (item : Item) → ItemFits t rows qrows depth item → NamesKept t slots qslots (region * depth) item slots'
      → Held most slots → Held (most + 3) slots'
  names_held slots qslots slots' (Byte value) f e x = rw e (held_more (omega arith) x)
  names_held slots qslots slots' (Texted token place units) f e x = rw e (held_more (omega arith) x)
  names_held slots qslots slots' (Pi row start) f e x =
      let a = ready.class_low row f.0 in
      let b = ready.texts.few in
      rw e (class_held (class_at t.classes row) (omega arith) x)
  names_held slots qslots slots' (Refer token row) f e x =
      let fit = parts_few row f.1 f.2 in
      let q = parts_at t.qnames t.classes (before row) in
      let class = class_at t.qclasses row in
      rw e (record {
        low = names_low most slots qslots (region * depth) q class (parts_more wide fit) x.low;
        trails = names_trails depth shallow slots qslots q class fit x.low.long x.trails;
      })
  names_held slots qslots slots' (Valued token place size) f e x = rw e (held_more (omega arith) x)
  names_held slots qslots slots' (Nest version) f e x = cleared_held e x
  names_held slots qslots slots' Leave f e x = rw e (held_more (omega arith) x)

  qnames_held : (qslots qslots' : List ℕ) (item : Item) → ItemFits t rows qrows depth item → QnamesKept t qslots (region * depth) item qslots'
      → Held most qslots → Held (most + 3) qslots'
  qnames_held qslots qslots' (Byte value) f e x = rw e (held_more (omega arith) x)
  qnames_held qslots qslots' (Texted token place units) f e x = rw e (held_more (omega arith) x)
  qnames_held qslots qslots' (Pi row start) f e x = rw e (held_more (omega arith) x)
  qnames_held qslots qslots' (Refer token row) f e x = rw e (class_held (class_at t.qclasses row) (ready.qclass_low row f.1 f.2) x)
  qnames_held qslots qslots' (Valued token place size) f e x = rw e (held_more (omega arith) x)
  qnames_held qslots qslots' (Nest version) f e x = cleared_held e x
  qnames_held qslots qslots' Leave f e x = rw e (held_more (omega arith) x)

-- ---- documents open

deeper_is : (item : Item) (n m d : ℕ) → Deeper item n m → n ≡ suc d → m ≡ suc (nested_after item d)
deeper_is (Byte value) n m d h e = h ∙ e
deeper_is (Texted token place units) n m d h e = h ∙ e
deeper_is (Pi row start) n m d h e = h ∙ e
deeper_is (Refer token row) n m d h e = h ∙ e
deeper_is (Valued token place size) n m d h e = h ∙ e
deeper_is (Nest version) n m d h e = let a = h.1 in omega arith
deeper_is Leave n m d h e = let a = h.1 in let b = h.0 in omega arith

deeper_few : (item : Item) (n m d : ℕ) → Deeper item n m → n ≡ suc d → d ≤ 8 → nested_after item d ≤ 8
deeper_few (Byte value) n m d h e l = l
deeper_few (Texted token place units) n m d h e l = l
deeper_few (Pi row start) n m d h e l = l
deeper_few (Refer token row) n m d h e l = l
deeper_few (Valued token place size) n m d h e l = l
deeper_few (Nest version) n m d h e l = let a = h.0 in omega arith
deeper_few Leave n m d h e l = omega arith

leave_up : (item : Item) (n m d : ℕ) → Deeper item n m → n ≡ suc d → item ≡ Leave → 1 ≤ d
leave_up item n m d h e i = let h' = subst (λ (x : Item). Deeper x n m) i h in let a = h'.0 in omega arith

-- what the item needs is there
item_fits : (t : Tables) {N : List NameRow} {Q : List QnameRow} (rows qrows n m d : ℕ) → length N ≡ rows → length Q ≡ qrows → {item : Item} {e : Event}
    → Meets t.doc N Q item e → Deeper item n m → n ≡ suc d → ItemFits t rows qrows d item
item_fits t rows qrows n m d a b (items.alone l) h e = omega arith
item_fits t rows qrows n m d a b (items.bare l k) h e = l
item_fits t rows qrows n m d a b (items.written l i) h e = (l, i)
item_fits t rows qrows n m d a b (items.instruction l x) h e = (omega arith, x)
item_fits t rows qrows n m d a b (items.reference l i k) h e = (l, omega arith, omega arith)
item_fits t rows qrows n m d a b (items.value l i) h e = (l, i)
item_fits t rows qrows n m d a b (items.nested l) h e = (l, let x = h.0 in omega arith)
item_fits t rows qrows n m d a b items.left h e = let x = h.0 in omega arith

-- ---- the walk

module _ (t : Tables) (N : List NameRow) (Q : List QnameRow) (E : List EventRow) (fin : Opened) where
  -- what the rows from i on are to write
  abbrev pub to_come : Scopes → ℕ → List ℕ
  to_come s i = body s (map (event_of t.doc N Q) (drop i E))

  pub record Rel (first target : List ℕ) (total : ℕ) (out slots qslots : List ℕ) (w : Spot) (i : ℕ) : Type 0 where
    pub s : Scopes
    pub o : Opened
    pub kept : Kept t N Q slots qslots s w.depth
    pub balanced : check o (drop i E) ≡ some fin
    pub docs_are : docs o ≡ suc w.depth
    pub shallow : w.depth ≤ 8
    pub held : Held (name_rows + 3 * i) slots
    pub qheld : Held (name_rows + 3 * i) qslots
    pub near : w.at ≤ 5 + i * 400000
    pub far : 5 ≤ w.at
    pub within : i ≤ length E
    pub long : length out ≡ length first
    pub size : w.at + length (to_come s i) ≡ total
    pub laid : sets out w.at (to_come s i) ≡ target
    pub either : (length first ≤ 5) ⊎ (total ≤ length first)

module _ (t : Tables) (rows qrows : ℕ) (N : List NameRow) (Q : List QnameRow) (E : List EventRow) (said : Said t N Q) (fin : Opened) (named : length N ≡ rows)
    (qnamed : length Q ≡ qrows) where
  abbrev ev : EventRow → Event
  ev e = event_of t.doc N Q e

  abbrev rest_of : Scopes → ℕ → List ℕ
  rest_of s i = to_come t N Q E fin s i

  module _ {first target : List ℕ} {total : ℕ} {out slots qslots : List ℕ} {w : Spot} {i : ℕ} (x : Rel t N Q E fin first target total out slots qslots w i)
      (e : EventRow) (at_i : drop i E ≡ e ∷ drop (suc i) E) (m : Meets t.doc N Q (item_of e) (ev e)) (short : length t.doc ≤ 65536) where
    n : Next x.o fin e (drop (suc i) E)
    n = next x.o fin e (drop (suc i) E) (rw at_i at x.balanced)

    come_is : rest_of x.s i ≡ emit x.s.here (ev e) ++ rest_of (scopes_after x.s (ev e)) (suc i)
    unfolding body
    come_is = rw at_i

    -- the bytes of the item, however the slots stand afterwards
    bytes_are : bytes_for t slots qslots (region * w.depth) (item_of e) ≡ emit x.s.here (ev e)
    bytes_are = bytes_of t N Q said slots qslots x.s w.depth x.kept x.shallow m

    pub fits_here : ItemFits t rows qrows w.depth (item_of e)
    fits_here = item_fits t rows qrows (docs x.o) (docs n.after) w.depth named qnamed m n.deeper x.docs_are

    pub room_here : Fits (length out) w.at (length (bytes_for t slots qslots (region * w.depth) (item_of e)))
    room_here = rw bytes_are (go x.either)
      where
        go : (length first ≤ 5) ⊎ (total ≤ length first) → Fits (length out) w.at (length (emit x.s.here (ev e)))
        go (inl h) = inl (let a = x.long in let b = x.far in omega arith)
        go (inr h) =
            inr (let a = x.long in let b = x.size in
            let c : length (rest_of x.s i) ≡ length (emit x.s.here (ev e)) + length (rest_of (scopes_after x.s (ev e)) (suc i)) = rw (come_is, length-append) in
            omega arith)

    up : item_of e ≡ Leave → 1 ≤ w.depth
    up i = leave_up (item_of e) (docs x.o) (docs n.after) w.depth n.deeper x.docs_are i

    pub keeps : {out' slots' qslots' : List ℕ} {r : Spot} → Ready t rows qrows → i < length E → Turned t slots qslots out slots' qslots' out' w (item_of e) r
        → Rel t N Q E fin first target total out' slots' qslots' r (i + 1)
    keeps {out'} {slots'} {qslots'} {r} ready less y =
        let p = y.wrote.put in
        let a = acts t N Q said slots qslots x.s w.depth x.kept x.shallow m up y.wrote.names_kept y.wrote.qnames_kept in
        let b = bytes_are in
        let few = item_few t slots qslots (region * w.depth) (item_of e) short in
        let past = p.past in
        let near = x.near in
        let far = x.far in
        let rest : List ℕ = rest_of (scopes_after x.s (ev e)) (suc i) in
        let c : length (rest_of x.s i) ≡ length (emit x.s.here (ev e)) + length rest = rw (come_is, length-append) in
        let l : length (bytes_for t slots qslots (region * w.depth) (item_of e)) ≡ length (emit x.s.here (ev e)) = ap length b in
        let z : i + 1 ≡ suc i = omega arith in
        let h : name_rows + 3 * (i + 1) ≡ (name_rows + 3 * i) + 3 = omega arith in
        let total-is = x.size in
        rw z
        (record {
          s = scopes_after x.s (ev e);
          o = n.after;
          kept = rw y.depth_is a.kept;
          balanced = n.rest;
          docs_are = deeper_is (item_of e) (docs x.o) (docs n.after) w.depth n.deeper x.docs_are ∙ ap suc (sym y.depth_is);
          shallow = rw y.depth_is (deeper_few (item_of e) (docs x.o) (docs n.after) w.depth n.deeper x.docs_are x.shallow);
          held = rw (← z, h) (names_held t rows qrows ready w.depth x.shallow (name_rows + 3 * i) (omega arith) slots qslots slots' (item_of e) fits_here y.wrote.names_kept x.held);
          qheld = rw (← z, h) (qnames_held t rows qrows ready w.depth x.shallow (name_rows + 3 * i) (omega arith) qslots qslots' (item_of e) fits_here y.wrote.qnames_kept x.qheld);
          near = omega arith;
          far = omega arith;
          within = less;
          long = put_length p ∙ x.long;
          size = omega arith;
          laid = ends_same out out' w.at r.at rest p ∙ x.laid;
          either = x.either;
        })
      where
        ends_same : (out out' : List ℕ) (at next : ℕ) (rest : List ℕ) → Put out out' at next (bytes_for t slots qslots (region * w.depth) (item_of e))
            → sets out' next (rest_of (scopes_after x.s (ev e)) (suc i)) ≡ sets out at (rest_of x.s i)
        ends_same out out' at next rest p =
            rw (p.laid, p.past, bytes_are, come_is) (sets_append (emit x.s.here (ev e)) (rest_of (scopes_after x.s (ev e)) (suc i)) out at)

  -- all rows are written
  pub ends : {first target : List ℕ} {total : ℕ} {out slots qslots : List ℕ} {w : Spot} {i : ℕ} → Rel t N Q E fin first target total out slots qslots w i → length E ≤ i
      → (w.at ≡ total) × (out ≡ target)
  unfolding body
  ends {out = out} {w = w} {i = i} x h =
      let z : drop i E ≡ [] = drop_of_length-le E h in
      let c : rest_of x.s i ≡ [] = rw z in
      let a : sets out w.at [] ≡ _ = rw c at x.laid in
      let b = rw c at x.size in
      (omega arith, a)
