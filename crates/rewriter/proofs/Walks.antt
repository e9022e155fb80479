-- The walk over all rows writes the form. Assumes nothing.
use Prim.Native.Nat.{ℕ, zero, suc, ◌+◌, ◌*◌, ◌≤◌, ◌<◌}
use mathlib.Core.Path.{◌≡◌, refl, sym, ◌∙◌, ap, subst}
use mathlib.Core.Logic.{◌⊎◌, inl, inr}
use mathlib.Core.List.{List, [], map}
use native.Mathlib.Omega.{arith}
use lib.ListN.{length, get_or, length-append, replicate, length-replicate, get_or-replicate}
use lib.Seq.{sets}
use Rattle.sequences.specs.Lists.{same}
use Rattle.machine.specs.Machine.{NameRow, QnameRow, EventRow, event_of}
use Rattle.machine.specs.Balance.{nothing_open}
use Rattle.machine.specs.Tables.{class_count, name_rows_in, qname_rows_in, event_rows_in, events_in}
use Rattle.form.specs.Canonical.{same_triple, none_yet, body, header_of, canonical}
use Rattle.form_output.specs.Output.{Fits, Put}
use Rattle.form_output.proofs.Laws.{put_then, put_length}
use Rattle.classes.specs.Classes.{texts_of, triples_of}
use Rattle.form_slots.specs.Slots.{Low, Cleared, Trails, region, slot_count}
use Rattle.form_slots.proofs.TrailLaws.{trail_none}
use Rattle.form_slots.proofs.Slots.{low_more}
use Rattle.form_names.proofs.Layers as layers
use Rattle.form_names.proofs.Layers.{marks_none}
use Rattle.form_items.specs.declared.Spot.{Spot}
use Rattle.form_items.specs.declared.Item.{Item}
use Rattle.form_items.specs.declared.Item.TheVariants.{Leave}
use Rattle.form_items.specs.Walk.{Tables, item_at, Either, bytes_for, nested_after, Wrote, Turned, Ready, ItemFits, Prepared}
use Rattle.rewriter.proofs.Step.{Rel, fits_here, room_here, keeps, ends}
use Rattle.rewriter.proofs.Prep.{long_names, long_qnames, long_events, said, ready, from_row, meets, row_at, token_low}
use Rattle.token.specs.Tokens.{event_width}

-- ---- a turn

module _ (t : Tables) (rows qrows : ℕ) {item item' : Item} (e : item ≡ item') where
  pub leave_there : (depth : ℕ) → ItemFits t rows qrows depth item' → item ≡ Leave → 1 ≤ depth
  leave_there depth f i = subst (λ (y : Item). ItemFits t rows qrows depth y) (sym e ∙ i) f

  pub item_there : (depth : ℕ) → ItemFits t rows qrows depth item' → ItemFits t rows qrows depth item
  item_there depth f = rw e f

  pub room_there : (slots qslots out : List ℕ) (at base : ℕ) → Fits (length out) at (length (bytes_for t slots qslots base item')) → Fits (length out) at (length (bytes_for t slots qslots base item))
  room_there slots qslots out at base f = rw e f

  pub turned : {slots qslots out slots' qslots' out' : List ℕ} {w : Spot} {at depth : ℕ} → Wrote t slots qslots out slots' qslots' out' w item at
      → depth ≡ nested_after item w.depth → Turned t slots qslots out slots' qslots' out' w item' (record { at = at; depth = depth })
  turned x d = record { wrote = rw e at x; depth_is = d ∙ rw e }

-- ---- nothing is defined yet

zeros_cleared : (n : ℕ) → class_count ≤ n → Cleared (replicate {A = ℕ} n 0) (replicate {A = ℕ} n 0) 0
zeros_cleared n h =
    record {
      long = refl;
      inside = λ k a b. get_or-replicate n k 0 0 (omega arith);
      under = λ k a. refl;
      over = λ k a. refl;
    }

zero_each : (n k : ℕ) → get_or (replicate {A = ℕ} n 0) k 0 ≡ 0
zero_each zero k = refl
zero_each (suc n) zero = refl
zero_each (suc n) (suc k) = zero_each n k

zeros_low : (n most : ℕ) → n ≡ slot_count → Low most (replicate {A = ℕ} n 0)
zeros_low n most e = record { long = length-replicate {A = ℕ} n 0 ∙ e; each = λ k. rw (zero_each n k) (omega arith) }

-- ---- the walk

module _ (t : Tables) (events : List ℕ) (rows qrows count : ℕ) where
  abbrev N : List NameRow
  N = name_rows_in rows t.names

  abbrev Q : List QnameRow
  Q = qname_rows_in qrows t.qnames

  abbrev E : List EventRow
  E = event_rows_in count events

  abbrev form : List ℕ
  form = body none_yet (map (event_of t.doc N Q) E)

  -- the walk before row i, where the output was `first` after the header
  abbrev pub Inv : List ℕ → List ℕ → List ℕ → List ℕ → Spot → ℕ → Type 0
  Inv first out slots qslots w i = Rel t N Q E nothing_open first (sets first 5 form) (5 + length form) out slots qslots w i

  form_long : (version : ℕ) → length (canonical version (events_in t.doc t.names t.qnames events rows qrows count)) ≡ 5 + length form
  unfolding canonical events_in header_of
  form_long version = rw length-append

  header_past : (version : ℕ) {first out : List ℕ} {at : ℕ} → Put out first 0 at (header_of version) → at ≡ 5
  unfolding header_of
  header_past version p = p.past

  either_is : (version room : ℕ) → Either room (length (canonical version (events_in t.doc t.names t.qnames events rows qrows count))) → (room ≤ 5) ⊎ (5 + length form ≤ room)
  either_is version room (inl h) = inl (omega arith)
  either_is version room (inr h) = inr (let e = form_long version in omega arith)

  -- an array of zeros
  pub record Zeros (l : List ℕ) : Type 0 where
    pub low : Low 0 l
    pub cleared : Cleared l l 0
    pub trails : Trails l

  pub zeros : Zeros (replicate {A = ℕ} slot_count 0)
  zeros = record { low = zeros_low slot_count 0 refl; cleared = zeros_cleared slot_count (omega arith); trails = λ d few. trail_none (λ k a b. zero_each slot_count k) }

  module _ (x : Prepared t events rows qrows count) where
    pub begins : (version : ℕ) {first out : List ℕ} {at : ℕ} (slots qslots : List ℕ) → Put out first 0 at (header_of version)
        → Either (length out) (length (canonical version (events_in t.doc t.names t.qnames events rows qrows count))) → Zeros slots → Zeros qslots
        → Inv first first slots qslots (record { at = at; depth = 0 }) 0
    begins version {first} {out} {at} slots qslots p e z z' =
        let a = header_past version p in
        let l = put_length p in
        let few = (said t events rows qrows count x).few in
        let qfew = (said t events rows qrows count x).qfew in
        record {
          s = none_yet;
          o = nothing_open;
          kept =
              record {
                names = layers.layer {cs = []} (marks_none same (texts_of t.doc N) few z.cleared) layers.bottom;
                qnames = layers.layer {cs = []} (marks_none same_triple (triples_of t.doc N Q) qfew z'.cleared) layers.bottom;
                deep = refl;
                long = z.low.long;
                qlong = z'.low.long;
              };
          balanced = x.balanced;
          docs_are = refl;
          shallow = omega arith;
          held = record { low = low_more (omega arith) z.low; trails = z.trails };
          qheld = record { low = low_more (omega arith) z'.low; trails = z'.trails };
          near = omega arith;
          far = omega arith;
          within = omega arith;
          long = refl;
          size = omega arith;
          laid = ap (λ (k : ℕ). sets first k form) a;
          either = rw l (either_is version (length out) e);
        }

    module _ {first out slots qslots : List ℕ} {w : Spot} {i : ℕ} (y : Inv first out slots qslots w i) (less : i < count) where
      pub asks : (i < 4096) × (event_width * i + event_width ≤ length events) × (get_or events (event_width * i) 0 < 256) × Ready t rows qrows × ItemFits t rows qrows w.depth (item_at events i)
          × Low 15000 slots × Low 15000 qslots × (w.depth ≤ 8) × (w.at ≤ 800000000000)
          × Fits (length out) w.at (length (bytes_for t slots qslots (region * w.depth) (item_at events i))) × Trails slots × Trails qslots
      asks =
          let f = x.filled.efew in
          let g = x.filled.elong in
          let near = y.near in (
            omega arith,
            omega arith,
            token_low t events rows qrows count x i less,
            ready t events rows qrows count x,
            fits_here t rows qrows N Q E (said t events rows qrows count x) nothing_open (long_names t events rows qrows count x) (long_qnames t events rows qrows count x) y
                (row_at t events rows qrows count x i) (from_row t events rows qrows count x i less) (meets t events rows qrows count x i less) x.filled.short,
            low_more (omega arith) y.held.low,
            low_more (omega arith) y.qheld.low,
            y.shallow,
            omega arith,
            room_here t rows qrows N Q E (said t events rows qrows count x) nothing_open (long_names t events rows qrows count x) (long_qnames t events rows qrows count x) y
                (row_at t events rows qrows count x i) (from_row t events rows qrows count x i less) (meets t events rows qrows count x i less) x.filled.short,
            y.held.trails,
            y.qheld.trails,
          )

      pub goes_on : {out' slots' qslots' : List ℕ} {r : Spot} → Turned t slots qslots out slots' qslots' out' w (item_at events i) r → Inv first out' slots' qslots' r (i + 1)
      goes_on z =
          let l = long_events t events rows qrows count x in
          keeps t rows qrows N Q E (said t events rows qrows count x) nothing_open (long_names t events rows qrows count x) (long_qnames t events rows qrows count x) y
          (row_at t events rows qrows count x i) (from_row t events rows qrows count x i less) (meets t events rows qrows count x i less) x.filled.short (ready t events rows qrows count x) (omega arith) z

    -- the header, and then all rows
    pub whole : (version : ℕ) {before first out slots qslots : List ℕ} {at : ℕ} {w : Spot} {i : ℕ} → Put before first 0 at (header_of version)
        → Inv first out slots qslots w i → count ≤ i → Put before out 0 w.at (canonical version (events_in t.doc t.names t.qnames events rows qrows count))
    unfolding canonical events_in
    whole version {first = first} {out = out} {at = at} {w = w} p y h =
        let l = long_events t events rows qrows count x in
        let z = ends t rows qrows N Q E (said t events rows qrows count x) nothing_open (long_names t events rows qrows count x) (long_qnames t events rows qrows count x) y (omega arith) in
        let a = header_past version p in
        let z₀ = z.0 in
        let q : Put first out at w.at form = record { past = omega arith; laid = rw a z.1 } in
        put_then p q
