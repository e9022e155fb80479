-- The payloads of one size: what a number of the table says of them, and what they say of a token. Assumes nothing.
use Prim.Native.Nat.{ℕ, zero, suc, ◌/◌, ◌%◌, ◌<◌}
use mathlib.Core.Path.{◌≡◌, refl, sym, ◌∙◌, ap}
use mathlib.Core.List.{List, map}
use native.Mathlib.Decide.{ℕ_discrete}
use native.Mathlib.Omega.{arith}
use lib.ListN.{get_or, drop, get_or-map}
use Rattle.token.specs.Tokens.{class_of, shape_of}
use Rattle.token.specs.Entries.{Listed, class_in, shape_in, classes, shapes}
use Rattle.token.specs.Fixed.{size_in, fixed_by, fixed_of}
use Rattle.token.specs.declared.Class.{Class}
use Rattle.token.specs.declared.Class.TheVariants.{Unknown, Value, LaterValue, XmlDecl, Encoding, DocType, System, Public, Subset, Element, EndElement, Attribute, EndAttributes, Pi, Comment, Cdata, CdataEnd, NameDef, QnameDef, Nest, EndNest, Extension, Flush}
use Rattle.token.specs.declared.Shape.{Shape}
use Rattle.token.specs.declared.Shape.TheVariants.{Nothing, Fixed, Text, Blob, CodePage, Decimal, Qname, Stamp, Date, Time, ZonedTime}

-- what is 0 at each element of a list, and past its end
zero_each : {A : Type 0} (f : A → ℕ) (d : A) → f d ≡ 0 → (l : List A) → map f l ≡ map (λ (a : A). 0) l → (k : ℕ) → f (get_or l k d) ≡ 0
zero_each {A} f d z l e k =
    sym (get_or-map f l k d)
    ∙ ap (λ m. get_or m k (f d)) e
    ∙ ap (get_or (map (λ (a : A). 0) l) k) z
    ∙ get_or-map (λ (a : A). 0) l k d

-- numbers of no value, and of no payload of one size
other_class : (k : ℕ) (s : Shape) → (k ≡ 1 → ⊥) → fixed_by (get_or classes k Unknown) s ≡ 0
other_class zero s h = refl
other_class (suc zero) s h = absurd (h refl)
other_class (suc (suc k)) s h = zero_each (λ c. fixed_by c s) Unknown refl (drop 2 classes) refl k

other_shape : (k : ℕ) → (k ≡ 1 → ⊥) → (k ≡ 2 → ⊥) → (k ≡ 3 → ⊥) → (k ≡ 4 → ⊥) → (k ≡ 5 → ⊥) → size_in (get_or shapes k Nothing) ≡ 0
other_shape zero a b c d e = refl
other_shape (suc zero) a b c d e = absurd (a refl)
other_shape (suc (suc zero)) a b c d e = absurd (b refl)
other_shape (suc (suc (suc zero))) a b c d e = absurd (c refl)
other_shape (suc (suc (suc (suc zero)))) a b c d e = absurd (d refl)
other_shape (suc (suc (suc (suc (suc zero))))) a b c d e = absurd (e refl)
other_shape (suc (suc (suc (suc (suc (suc k)))))) a b c d e = zero_each size_in Nothing refl (drop 6 shapes) refl k

-- a number that is none of the five
pub not_fixed : (entry : ℕ) → (entry ≡ 33 → ⊥) → (entry ≡ 34 → ⊥) → (entry ≡ 35 → ⊥) → (entry ≡ 36 → ⊥) → (entry ≡ 37 → ⊥)
    → 0 ≡ fixed_by (class_in entry) (shape_in entry)
unfolding class_in shape_in
not_fixed entry a b c d e = by_class (ℕ_discrete (entry / 32) 1)
  where
    by_class : Dec (entry / 32 ≡ 1) → 0 ≡ fixed_by (get_or classes (entry / 32) Unknown) (get_or shapes (entry % 32) Nothing)
    by_class (yes q) =
        rw q
        (sym (other_shape (entry % 32) (λ r. a (omega arith)) (λ r. b (omega arith)) (λ r. c (omega arith)) (λ r. d (omega arith)) (λ r. e (omega arith))))
    by_class (no q) = sym (other_class (entry / 32) (get_or shapes (entry % 32) Nothing) q)

-- the entry of a byte says what 004's list says of it
pub fixed_here : {table : List ℕ} {code r : ℕ} → Listed table → code < 256 → r ≡ fixed_by (class_in (get_or table code 0)) (shape_in (get_or table code 0)) → r ≡ fixed_of code
unfolding fixed_of
fixed_here {code = code} l h e = e ∙ rw (l.class_is code h, l.shape_is code h)

-- a payload of one size: the token's class and shape
sized : (s : Shape) → (size_in s ≡ 0 → ⊥) → s ≡ Fixed (size_in s)
sized Nothing h = absurd (h refl)
sized (Fixed size) h = refl
sized (Text most) h = absurd (h refl)
sized (Blob most) h = absurd (h refl)
sized (CodePage most) h = absurd (h refl)
sized Decimal h = absurd (h refl)
sized Qname h = absurd (h refl)
sized (Stamp low) h = absurd (h refl)
sized (Date first last) h = absurd (h refl)
sized (Time first last) h = absurd (h refl)
sized (ZonedTime first last) h = absurd (h refl)

pub record Sized (c : Class) (s : Shape) (size : ℕ) : Type 0 where
  pub class_is : c ≡ Value
  pub shape_is : s ≡ Fixed size

sized_by : (c : Class) (s : Shape) → (fixed_by c s ≡ 0 → ⊥) → Sized c s (fixed_by c s)
sized_by Unknown s h = absurd (h refl)
sized_by Value s h = record { class_is = refl; shape_is = sized s h }
sized_by LaterValue s h = absurd (h refl)
sized_by XmlDecl s h = absurd (h refl)
sized_by Encoding s h = absurd (h refl)
sized_by DocType s h = absurd (h refl)
sized_by System s h = absurd (h refl)
sized_by Public s h = absurd (h refl)
sized_by Subset s h = absurd (h refl)
sized_by Element s h = absurd (h refl)
sized_by EndElement s h = absurd (h refl)
sized_by Attribute s h = absurd (h refl)
sized_by EndAttributes s h = absurd (h refl)
sized_by Pi s h = absurd (h refl)
sized_by Comment s h = absurd (h refl)
sized_by Cdata s h = absurd (h refl)
sized_by CdataEnd s h = absurd (h refl)
sized_by NameDef s h = absurd (h refl)
sized_by QnameDef s h = absurd (h refl)
sized_by Nest s h = absurd (h refl)
sized_by EndNest s h = absurd (h refl)
sized_by Extension s h = absurd (h refl)
sized_by Flush s h = absurd (h refl)

pub fixed_is : (code : ℕ) → (fixed_of code ≡ 0 → ⊥) → Sized (class_of code) (shape_of code) (fixed_of code)
unfolding fixed_of
fixed_is code h = sized_by (class_of code) (shape_of code) h
