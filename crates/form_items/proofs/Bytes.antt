-- The ways out of the functions that write an item, and what they ask of those that they call. Assumes nothing.
use Prim.Native.Nat.{ℕ, ◌+◌, ◌*◌, ◌≤◌}
use mathlib.Core.Path.{◌≡◌, refl, sym, ◌∙◌, subst}
use mathlib.Core.List.{List, [], ◌∷◌, ◌++◌}
use native.Mathlib.Omega.{arith}
use lib.ListN.{length, set, length-append}
use Rattle.sequences.specs.Lists.{part}
use Rattle.sequences.proofs.Overlay.{part_length}
use Rattle.token.specs.Tokens.{shape_of}
use Rattle.token.specs.declared.Shape.{Shape}
use Rattle.number.specs.Number.{shortest}
use Rattle.value.specs.Fields.{text, text_at}
use Rattle.value.specs.Bounds.{Lies}
use Rattle.value.specs.declared.Text as texts
use Rattle.std.specs.Prelude.{Result, Ok, Err}
use Rattle.token.specs.declared.Refusal.{Refusal}
use Rattle.machine.specs.Machine.{data_in}
use Rattle.machine.specs.Tables.{NamesInside}
use Rattle.form.specs.Canonical.{with_units, length_of}
use Rattle.form_output.specs.Output.{Fits, Put}
use Rattle.form_output.proofs.Laws.{shortest_few, put_byte, put_then, fits_first, fits_next}
use Rattle.form_slots.specs.Slots.{slots_after, number_in, Low, region, slot_count}
use Rattle.form_names.specs.Naming.{bytes_before}
use Rattle.form_names.proofs.Names.{slots_low}
use Rattle.form_slots.proofs.Slots.{low_more, number_low}
use Rattle.form_names.proofs.Steps.{bytes_few}
use Rattle.form_items.specs.Walk.{tables, pi_bytes, TextThere}

-- a byte, and then the rest
pub byte_then : {b m e : List ℕ} {at r x : ℕ} {w : List ℕ} → m ≡ set b at x → Put m e (at + 1) r w → Put b e at r (x ∷ w)
byte_then i p = put_then (put_byte i) p

pub byte_fits : (b m : List ℕ) (at x : ℕ) (w : List ℕ) → m ≡ set b at x → Fits (length b) at (length (x ∷ w)) → Fits (length m) (at + 1) (length w)
byte_fits b m at x w i f = fits_next {b = b} {m = m} {a = x ∷ []} w (put_byte {x = x} i) f

-- a payload after its token
module _ (doc : List ℕ) (token place size : ℕ) {shape : Shape} (s : shape ≡ shape_of token) where
  pub value_asks : (b m : List ℕ) (at : ℕ) → place + size ≤ length doc → length doc ≤ 65536 → at ≤ 1000000000000
      → m ≡ set b at token → Fits (length b) at (length (token ∷ (length_of (shape_of token) (part doc place size) ++ part doc place size)))
      → (place + size ≤ length doc) × (length doc ≤ 65536) × (at + 1 ≤ 1099511627776)
      × Fits (length m) (at + 1) (length (length_of shape (part doc place size)) + size)
  value_asks b m at inside short near i f =
      let g = byte_fits b m at token (length_of (shape_of token) (part doc place size) ++ part doc place size) i f in
      let n : length (length_of (shape_of token) (part doc place size) ++ part doc place size) ≡ length (length_of (shape_of token) (part doc place size)) + size =
      rw (length-append, part_length doc place size inside) in
      (inside, short, omega arith, rw s (subst (λ (k : ℕ). Fits (length m) (at + 1) k) n g))

  pub value_put : {b m e : List ℕ} {at r : ℕ} → m ≡ set b at token → Put m e (at + 1) r (length_of shape (part doc place size) ++ part doc place size)
      → Put b e at r (token ∷ (length_of (shape_of token) (part doc place size) ++ part doc place size))
  value_put i p = byte_then i (rw s at p)

-- ---- PIs

module _ (doc names slots : List ℕ) (rows base class start : ℕ) (t : NamesInside doc names rows) (low : Low 15000 slots) where
  abbrev bytes : List ℕ
  bytes = bytes_before doc names slots base class

  abbrev number : ℕ
  number = number_in (slots_after slots base class) base class

  abbrev after : List ℕ
  after = 0xF4 ∷ (shortest number ++ with_units (data_in doc (text_at 5 doc start)))

  pi_is : pi_bytes (tables doc names [] [] []) slots base class start ≡ bytes ++ after
  unfolding pi_bytes
  pi_is = refl

  pub pi_asks : (out : List ℕ) (at : ℕ) → class ≤ rows → base + region ≤ slot_count → at ≤ 900000000000
      → Fits (length out) at (length (pi_bytes (tables doc names [] [] []) slots base class start))
      → NamesInside doc names rows × (class ≤ rows) × (base + region ≤ slot_count) × Low 20000 slots × (at ≤ 1000000000000) × Fits (length out) at (length bytes)
  pi_asks out at l b near f = (t, l, b, low_more (omega arith) low, omega arith, fits_first bytes after (rw pi_is at f))

  -- after its target is defined
  pub pi_low : {s : List ℕ} → class ≤ rows → s ≡ slots_after slots base class → Low 20000 s
  pi_low l i = let n = t.few in rw i (low_more (omega arith) (slots_low 15000 slots base class (omega arith) low))

  module _ {out m : List ℕ} {at p : ℕ} (x : Put out m at p bytes) (near : at ≤ 900000000000) where
    pub pi_near : p ≤ 900001000000
    pi_near = let f = bytes_few doc names slots base class in let e = x.past in let s = t.short in omega arith

    pub pi_number : {s : List ℕ} {k : ℕ} → class ≤ rows → s ≡ slots_after slots base class → k ≡ number_in s base class → (k ≤ 2147483647) × (p + 1 ≤ 1099511627776)
    pi_number {s} {k} h i j =
        let l = number_low 20000 s base class (pi_low h i) in
        let n = pi_near in
        (omega arith, omega arith)

    module _ {s m' m'' : List ℕ} {k y : ℕ} (i : s ≡ slots_after slots base class) (j : k ≡ number_in s base class) (q : m' ≡ set m p 0xF4)
        (z : Put m' m'' (p + 1) y (shortest k)) where
      number_is : k ≡ number
      number_is = j ∙ rw i

      z' : Put m' m'' (p + 1) y (shortest number)
      z' = rw number_is at z

      text_is : {r : Result texts.Text Refusal} {place units : ℕ} → r ≡ text_at 5 doc start → r ≡ Ok (text place units) → data_in doc (text_at 5 doc start) ≡ part doc place (2 * units)
      text_is e f = rw (← e, f)

      pub pi_text : {r : Result texts.Text Refusal} {place units : ℕ} → r ≡ text_at 5 doc start → r ≡ Ok (text place units) → Lies (length doc) start r
          → Fits (length out) at (length (pi_bytes (tables doc names [] [] []) slots base class start))
          → (place + 2 * units ≤ length doc) × (length doc ≤ 65536) × (y ≤ 1099511627776) × Fits (length m'') y (length (with_units (part doc place (2 * units))))
      pi_text {r} {place} {units} e f l h =
          let w = subst (λ (a : Result texts.Text Refusal). Lies (length doc) start a) f l in
          let n = pi_near in
          let few = shortest_few k in
          let past = z.past in
          let a : Fits (length m) p (length after) = fits_next after x (rw pi_is at h) in
          let b = byte_fits m m' p 0xF4 (shortest number ++ with_units (data_in doc (text_at 5 doc start))) q a in
          let c = fits_next (with_units (data_in doc (text_at 5 doc start))) z' b in
          (w.1, t.short, omega arith, rw (text_is e f) at c)

      pub pi_put : {r : Result texts.Text Refusal} {place units : ℕ} {e : List ℕ} {v : ℕ} → r ≡ text_at 5 doc start → r ≡ Ok (text place units)
          → Put m'' e y v (with_units (part doc place (2 * units)))
          → Put out e at v (pi_bytes (tables doc names [] [] []) slots base class start) × (s ≡ slots_after slots base class)
      pi_put {e = e} {v = v} e₁ f u =
          let u' : Put m'' e y v (with_units (data_in doc (text_at 5 doc start))) = rw (text_is e₁ f) u in
          (rw pi_is (put_then x (byte_then q (put_then z' u'))), i)

-- a text that is there is not refused
pub not_refused : (doc : List ℕ) (start : ℕ) {r : Result texts.Text Refusal} {f : Refusal} → TextThere doc start → r ≡ text_at 5 doc start → r ≡ Err f → ⊥
not_refused doc start {r} {f} t e h = apart (sym t.is ∙ (sym e ∙ h))
  where
    apart : {a : texts.Text} → ◌≡◌ {A = Result texts.Text Refusal} (Ok a) (Err f) → ⊥
    apart i = let z : ◌≡◌ {A = ℕ} 0 1 = cc in omega arith
