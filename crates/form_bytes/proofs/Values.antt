-- Texts and payloads with the numbers before them. Assumes nothing.
use Prim.Native.Nat.{ℕ, ◌+◌, ◌*◌, ◌/◌, ◌≤◌}
use mathlib.Core.Path.{◌≡◌, refl, ◌∙◌, ap}
use mathlib.Core.List.{List, [], ◌∷◌, ◌++◌}
use native.Mathlib.Omega.{arith}
use lib.Dec.{T}
use lib.ListN.{length, length-append}
use types.Run.{OneOf}
use denote.Enum.Declared.{tag_of}
use Rattle.sequences.specs.Lists.{part}
use Rattle.sequences.proofs.Match.{among, one_of}
use Rattle.sequences.proofs.Overlay.{part_length}
use Rattle.number.specs.Number.{shortest}
use Rattle.token.specs.contracts.Shape.{the_type}
use Rattle.token.specs.declared.Shape.{Shape}
use Rattle.token.specs.declared.Shape.TheVariants.{Nothing, Fixed, Text, Blob, CodePage, Decimal, Qname, Stamp, Date, Time, ZonedTime}
use Rattle.form.specs.Canonical.{with_units, length_of}
use Rattle.form_output.specs.Output.{Fits, Put}

-- ---- a text

module _ (doc : List ℕ) (place units : ℕ) (h : place + 2 * units ≤ length doc) where
  counted_is : with_units (part doc place (2 * units)) ≡ shortest units ++ part doc place (2 * units)
  unfolding with_units
  counted_is =
      let l = part_length doc place (2 * units) h in
      let e : length (part doc place (2 * units)) / 2 ≡ units = omega arith in
      ap (λ (n : ℕ). shortest n ++ part doc place (2 * units)) e

  pub text_fits : {room at : ℕ} → Fits room at (length (with_units (part doc place (2 * units)))) → Fits room at (length (shortest units) + 2 * units)
  text_fits {room} {at} f =
      let l = part_length doc place (2 * units) h in
      let e : length (with_units (part doc place (2 * units))) ≡ length (shortest units) + 2 * units = rw (counted_is, length-append, l) in
      rw e at f

  pub text_laid : {b e : List ℕ} {at r : ℕ} → Put b e at r (shortest units ++ part doc place (2 * units)) → Put b e at r (with_units (part doc place (2 * units)))
  text_laid x = rw counted_is x

-- ---- a payload

text_length : (s : Shape) (p : List ℕ) → T (among (2 ∷ []) (tag_of the_type s)) → length_of s p ≡ shortest (length p / 2)
unfolding length_of
text_length Nothing p h = absurd h
text_length (Fixed size) p h = absurd h
text_length (Text most) p h = refl
text_length (Blob most) p h = absurd h
text_length (CodePage most) p h = absurd h
text_length Decimal p h = absurd h
text_length Qname p h = absurd h
text_length (Stamp low) p h = absurd h
text_length (Date first last) p h = absurd h
text_length (Time first last) p h = absurd h
text_length (ZonedTime first last) p h = absurd h

blob_length : (s : Shape) (p : List ℕ) → T (among (3 ∷ 4 ∷ 5 ∷ []) (tag_of the_type s)) → length_of s p ≡ shortest (length p)
unfolding length_of
blob_length Nothing p h = absurd h
blob_length (Fixed size) p h = absurd h
blob_length (Text most) p h = absurd h
blob_length (Blob most) p h = refl
blob_length (CodePage most) p h = refl
blob_length Decimal p h = refl
blob_length Qname p h = absurd h
blob_length (Stamp low) p h = absurd h
blob_length (Date first last) p h = absurd h
blob_length (Time first last) p h = absurd h
blob_length (ZonedTime first last) p h = absurd h

no_length : (s : Shape) (p : List ℕ) → ((x : ℕ) → s ≡ Text x → ⊥) → ((x : ℕ) → s ≡ Blob x → ⊥) → ((x : ℕ) → s ≡ CodePage x → ⊥) → (s ≡ Decimal → ⊥) → length_of s p ≡ []
unfolding length_of
no_length Nothing p t b k d = refl
no_length (Fixed size) p t b k d = refl
no_length (Text most) p t b k d = absurd (t most refl)
no_length (Blob most) p t b k d = absurd (b most refl)
no_length (CodePage most) p t b k d = absurd (k most refl)
no_length Decimal p t b k d = absurd (d refl)
no_length Qname p t b k d = refl
no_length (Stamp low) p t b k d = refl
no_length (Date first last) p t b k d = refl
no_length (Time first last) p t b k d = refl
no_length (ZonedTime first last) p t b k d = refl

-- the number that stands before a part of a document as a payload of this shape
module _ (s : Shape) (doc : List ℕ) (place size : ℕ) (h : place + size ≤ length doc) where
  pub of_text : OneOf (2 ∷ []) (tag_of the_type s) → length_of s (part doc place size) ≡ shortest (size / 2)
  of_text k = text_length s (part doc place size) (one_of (2 ∷ []) (tag_of the_type s) k) ∙ ap (λ (n : ℕ). shortest (n / 2)) (part_length doc place size h)

  pub of_blob : OneOf (3 ∷ 4 ∷ 5 ∷ []) (tag_of the_type s) → length_of s (part doc place size) ≡ shortest size
  of_blob k = blob_length s (part doc place size) (one_of (3 ∷ 4 ∷ 5 ∷ []) (tag_of the_type s) k) ∙ ap shortest (part_length doc place size h)

  pub of_others : ((x : ℕ) → s ≡ Text x → ⊥) → ((x : ℕ) → s ≡ Blob x → ⊥) → ((x : ℕ) → s ≡ CodePage x → ⊥) → (s ≡ Decimal → ⊥) → length_of s (part doc place size) ≡ []
  of_others t b k d = no_length s (part doc place size) t b k d

-- the same room and the same bytes, with that number
pub value_fits : {room at : ℕ} (size : ℕ) {u w : List ℕ} → u ≡ w → Fits room at (length u + size) → Fits room at (length w + size)
value_fits size e f = rw e at f

pub value_fits_bare : {room at : ℕ} (size : ℕ) {u : List ℕ} → u ≡ [] → Fits room at (length u + size) → Fits room at size
value_fits_bare size {u} e f = let n : length u + size ≡ size = rw e (omega arith) in rw n at f

pub value_laid : {b e : List ℕ} {at r : ℕ} {u w : List ℕ} (p : List ℕ) → u ≡ w → Put b e at r (w ++ p) → Put b e at r (u ++ p)
value_laid p i x = rw i x
