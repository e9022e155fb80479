-- What writing an item asks of the functions that it calls, and its ways out. Assumes nothing.
use Prim.Native.Nat.{ℕ, zero, suc, ◌+◌, ◌-◌, ◌*◌, ◌≤◌, ◌<◌}
use mathlib.Core.Path.{◌≡◌, refl, sym, ◌∙◌, subst}
use mathlib.Core.List.{List, [], ◌∷◌, ◌++◌}
use native.Mathlib.Omega.{arith}
use lib.ListN.{length, get_or}
use Rattle.sequences.specs.Lists.{part}
use Rattle.token.specs.Tokens.{shape_of, qname_width}
use Rattle.number.specs.Number.{shortest}
use Rattle.machine.specs.Tables.{NamesInside}
use Rattle.form.specs.Canonical.{with_units, length_of, header_of}
use Rattle.form_output.specs.Output.{Fits, Put}
use Rattle.form_output.proofs.Laws.{fits_first}
use Rattle.form_slots.specs.declared.Parts.{Parts}
use Rattle.form_slots.specs.Slots.{slots_after, number_in, parts_at, Low, PartsFit, Cleared, Trail, Trails, region, slot_count}
use Rattle.form_names.specs.Naming.{qname_before, names_after}
use Rattle.form_slots.proofs.Slots.{low_more}
use Rattle.form_items.specs.declared.Spot.{Spot}
use Rattle.form_items.specs.declared.Item.{Item}
use Rattle.form_items.specs.declared.Item.TheVariants.{Byte, Texted, Pi, Refer, Valued, Nest, Leave}
use Rattle.form_items.specs.Walk.{Tables, tables, before, base_at, pi_bytes, refer_bytes, bytes_for, Wrote, Ready, TextThere, ItemFits}
use Rattle.classes.specs.Search.{class_at}

before_is : (row : ℕ) → 1 ≤ row → before row ≡ row - 1
before_is zero h = absurd (let q : ⊥ = omega arith in q)
before_is (suc k) h = omega arith

-- the names of a row of qnames are rows of names
pub parts_fit : {t : Tables} {rows qrows k : ℕ} → Ready t rows qrows → k < qrows → PartsFit rows (parts_at t.qnames t.classes k)
parts_fit {k = k} ready h =
    record {
      uri_in = ready.class_low _ (ready.uri_in k h);
      prefix_in = ready.class_low _ (ready.prefix_in k h);
      local_in_fact = ready.class_low _ (ready.local_in_fact k h);
    }

-- a PI looks at the document and at the names alone
pi_same : (t : Tables) (slots : List ℕ) (base class start : ℕ) → pi_bytes t slots base class start ≡ pi_bytes (tables t.doc t.names [] [] []) slots base class start
unfolding pi_bytes
pi_same t slots base class start = refl

module _ (t : Tables) (rows qrows : ℕ) (slots qslots out : List ℕ) (w : Spot) (item : Item) (ready : Ready t rows qrows) (fits : ItemFits t rows qrows w.depth item)
    (low : Low 15000 slots) (qlow : Low 15000 qslots) (shallow : w.depth ≤ 8) (near : w.at ≤ 800000000000)
    (room : Fits (length out) w.at (length (bytes_for t slots qslots (base_at w.depth) item))) where
  fits_as : (x : Item) → item ≡ x → ItemFits t rows qrows w.depth x
  fits_as x e = subst (λ (y : Item). ItemFits t rows qrows w.depth y) e fits

  room_as : (x : Item) → item ≡ x → Fits (length out) w.at (length (bytes_for t slots qslots (base_at w.depth) x))
  room_as x e = subst (λ (y : Item). Fits (length out) w.at (length (bytes_for t slots qslots (base_at w.depth) y))) e room

  base_room : base_at w.depth + region ≤ slot_count
  base_room = omega arith

  pub byte_asks : {value : ℕ} → item ≡ Byte value → value < 256
  byte_asks {value} e = fits_as (Byte value) e

  pub text_asks : {token place units : ℕ} → item ≡ Texted token place units
      → (place + 2 * units ≤ length t.doc) × (length t.doc ≤ 65536) × (w.at ≤ 1000000000000)
      × Fits (length out) w.at (length (token ∷ with_units (part t.doc place (2 * units))))
  text_asks {token} {place} {units} e = ((fits_as (Texted token place units) e).1, ready.texts.short, omega arith, room_as (Texted token place units) e)

  pub target_asks : {row start : ℕ} → item ≡ Pi row start → row ≤ 1024
  target_asks {row} {start} e = let l = (fits_as (Pi row start) e).0 in let f = ready.texts.few in omega arith

  pub pi_asks : {row start class base : ℕ} → item ≡ Pi row start → class ≡ class_at t.classes row → base ≡ region * w.depth
      → NamesInside t.doc t.names rows × (class ≤ rows) × (base + region ≤ slot_count) × Low 15000 slots × (w.at ≤ 900000000000) × TextThere t.doc start
      × Fits (length out) w.at (length (pi_bytes (tables t.doc t.names [] [] []) slots base class start))
  pi_asks {row} {start} {class} {base} e c b =
      let f = fits_as (Pi row start) e in
      let r = room_as (Pi row start) e in
      (ready.texts, rw c (ready.class_low row f.0), rw b base_room, low, omega arith, f.1, rw (c, b) (rw (pi_same t slots (base_at w.depth) (class_at t.classes row) start) at r))

  pub row_asks : {token row : ℕ} → item ≡ Refer token row
      → (row - 1 < 1024) × (qname_width * (row - 1) + 3 ≤ length t.qnames) × (get_or t.qnames (qname_width * (row - 1)) 0 ≤ 1024)
      × (get_or t.qnames (qname_width * (row - 1) + 1) 0 ≤ 1024) × (get_or t.qnames (qname_width * (row - 1) + 2) 0 ≤ 1024)
  row_asks {token} {row} e =
      let f = fits_as (Refer token row) e in
      let a = f.1 in
      let b = f.2 in
      let q = ready.qrows_few in
      let l = ready.qnames_long in
      let n = ready.texts.few in
      let k : row - 1 < qrows = omega arith in
      let x = ready.uri_in (row - 1) k in
      let y = ready.prefix_in (row - 1) k in
      let z = ready.local_in_fact (row - 1) k in
      (omega arith, omega arith, omega arith, omega arith, omega arith)

  pub qclass_asks : {token row : ℕ} → item ≡ Refer token row → row ≤ 1024
  qclass_asks {token} {row} e = let l = (fits_as (Refer token row) e).2 in let q = ready.qrows_few in omega arith

  pub row_from : {token row : ℕ} → item ≡ Refer token row → 1 ≤ row
  row_from {token} {row} e = (fits_as (Refer token row) e).1

  module _ {token row class base : ℕ} {q : Parts} (e : item ≡ Refer token row) (p : q ≡ parts_at t.qnames t.classes (row - 1)) (c : class ≡ class_at t.qclasses row)
      (b : base ≡ region * w.depth) where
    from : 1 ≤ row
    from = row_from e

    bytes_are : bytes_for t slots qslots (base_at w.depth) (Refer token row)
        ≡ qname_before t.doc t.names slots qslots base q class ++ (token ∷ shortest (number_in (slots_after qslots base class) base class))
    unfolding refer_bytes
    bytes_are = rw (before_is row from, p, c, b)

    pub refer_asks : NamesInside t.doc t.names rows × PartsFit rows q × (1 ≤ class) × (class ≤ 1024) × (base + region ≤ slot_count) × Low 19000 slots × Low 19000 qslots
        × (w.at ≤ 900000000000) × Fits (length out) w.at (length (qname_before t.doc t.names slots qslots base q class))
    refer_asks =
        let f = fits_as (Refer token row) e in
        let n = f.2 in
        let m = from in
        let k : row - 1 < qrows = omega arith in
        let r = subst (λ (l : List ℕ). Fits (length out) w.at (length l)) bytes_are (room_as (Refer token row) e) in (
          ready.texts,
          rw p (parts_fit ready k),
          rw c (ready.qclass_from row m n),
          rw c (ready.qclass_low row m n),
          rw b base_room,
          low_more (omega arith) low,
          low_more (omega arith) qlow,
          omega arith,
          fits_first (qname_before t.doc t.names slots qslots base q class) (token ∷ shortest (number_in (slots_after qslots base class) base class)) r,
        )

    pub wrote_refer : {out' slots' qslots' : List ℕ} {r : ℕ}
        → Put out out' w.at r (qname_before t.doc t.names slots qslots base q class ++ (token ∷ shortest (number_in (slots_after qslots base class) base class)))
        → slots' ≡ names_after slots qslots base q class → qslots' ≡ slots_after qslots base class → Wrote t slots qslots out slots' qslots' out' w item r
    wrote_refer {out'} {slots'} {qslots'} {r} x y z =
        let x' = subst (λ (l : List ℕ). Put out out' w.at r l) (sym bytes_are) x in
        let y' : slots' ≡ names_after slots qslots (base_at w.depth) (parts_at t.qnames t.classes (before row)) (class_at t.qclasses row) =
        y ∙ rw (before_is row from, p, c, b) in
        let z' : qslots' ≡ slots_after qslots (base_at w.depth) (class_at t.qclasses row) = z ∙ rw (c, b) in
        rw e (record { put = x'; names_kept = y'; qnames_kept = z' })

  pub value_asks : {token place size : ℕ} → item ≡ Valued token place size
      → (place + size ≤ length t.doc) × (length t.doc ≤ 65536) × (w.at ≤ 1000000000000)
      × Fits (length out) w.at (length (token ∷ (length_of (shape_of token) (part t.doc place size) ++ part t.doc place size)))
  value_asks {token} {place} {size} e =
      let f = fits_as (Valued token place size) e in
      (f.1, ready.texts.short, omega arith, room_as (Valued token place size) e)

  pub nest_asks : {version base : ℕ} → Trails slots → Trails qslots → item ≡ Nest version → base ≡ region * w.depth
      → (version < 256) × (w.at ≤ 1000000000000) × ((base + region) + region ≤ slot_count) × Low 20000 slots × Low 20000 qslots
      × Trail slots (base + region) × Trail qslots (base + region)
  nest_asks {version} {base} x y e b =
      let f = fits_as (Nest version) e in
      let v = f.0 in
      let d = f.1 in
      let i : region * suc w.depth ≡ base + region = omega arith in
      (omega arith, omega arith, omega arith, low_more (omega arith) low, low_more (omega arith) qlow, rw i at (x (suc w.depth) (omega arith)), rw i at (y (suc w.depth) (omega arith)))

  -- ---- ways out
  pub wrote_byte : {value r : ℕ} {out' : List ℕ} → item ≡ Byte value → Put out out' w.at r (value ∷ []) → Wrote t slots qslots out slots qslots out' w item r
  wrote_byte e p = rw e (record { put = p; names_kept = refl; qnames_kept = refl })

  pub wrote_text : {token place units r : ℕ} {out' : List ℕ} → item ≡ Texted token place units → Put out out' w.at r (token ∷ with_units (part t.doc place (2 * units)))
      → Wrote t slots qslots out slots qslots out' w item r
  wrote_text e p = rw e (record { put = p; names_kept = refl; qnames_kept = refl })

  pub wrote_pi : {row start class base r : ℕ} {out' slots' : List ℕ} → item ≡ Pi row start → class ≡ class_at t.classes row → base ≡ region * w.depth
      → Put out out' w.at r (pi_bytes (tables t.doc t.names [] [] []) slots base class start) → slots' ≡ slots_after slots base class
      → Wrote t slots qslots out slots' qslots out' w item r
  wrote_pi {row} {start} {class} {base} {r} {out'} {slots'} e c b p s =
      let p' : Put out out' w.at r (pi_bytes t slots (base_at w.depth) (class_at t.classes row) start) =
      rw (pi_same t slots (base_at w.depth) (class_at t.classes row) start) (rw (c, b) at p) in
      rw e (record { put = p'; names_kept = s ∙ rw (c, b); qnames_kept = refl })

  pub wrote_value : {token place size r : ℕ} {out' : List ℕ} → item ≡ Valued token place size
      → Put out out' w.at r (token ∷ (length_of (shape_of token) (part t.doc place size) ++ part t.doc place size)) → Wrote t slots qslots out slots qslots out' w item r
  wrote_value e p = rw e (record { put = p; names_kept = refl; qnames_kept = refl })

  pub wrote_nest : {version base r : ℕ} {out' slots' qslots' : List ℕ} → item ≡ Nest version → base ≡ region * w.depth → Put out out' w.at r (0xEC ∷ header_of version)
      → Cleared slots slots' (base + region) → Cleared qslots qslots' (base + region) → Wrote t slots qslots out slots' qslots' out' w item r
  wrote_nest e b p x y = rw e (record { put = p; names_kept = rw b at x; qnames_kept = rw b at y })

  pub wrote_leave : {r : ℕ} {out' : List ℕ} → item ≡ Leave → Put out out' w.at r (0xEB ∷ []) → Wrote t slots qslots out slots qslots out' w item r
  wrote_leave e p = rw e (record { put = p; names_kept = refl; qnames_kept = refl })
