-- What reading finds where the form's bytes stand: numbers, texts, headers and payloads. Assumes nothing.
use Prim.Native.Nat.{ℕ, ◌+◌, ◌*◌, ◌/◌, ◌%◌, ◌≤◌, ◌<◌}
use mathlib.Core.Path.{◌≡◌, refl, ◌∙◌}
use mathlib.Core.Bool.{Bool, true, ◌&&◌}
use mathlib.Core.List.{List, [], ◌∷◌, ◌++◌, append_assoc}
use native.Mathlib.Omega.{arith}
use lib.Dec.{leb, eqb}
use lib.ListN.{length, get_or, drop}
use borrow.Author.Tests.{leb-true, eqb-true, lt-ltb, le-leb}
use Rattle.sequences.specs.Lists.{part}
use Rattle.sequences.proofs.Tests.{cond_if, and_left, and_right}
use Rattle.std.specs.Prelude.{Ok}
use Rattle.token.specs.Tokens.{largest, Token, tokens, find, shape_of}
use Rattle.token.specs.declared.Shape.{Shape}
use Rattle.token.specs.declared.Shape.TheVariants.{Nothing, Fixed, Text, Blob, CodePage, Decimal, Qname, Stamp, Date, Time, ZonedTime}
use Rattle.number.specs.Number.{number, number_at, shortest}
use Rattle.number.proofs.Within.{number_within, is_within}
use Rattle.number.proofs.Spelling.{shortest_read}
use Rattle.rules.specs.Rules.{decimal_size, decimal_lawful, time_bytes, time_lawful, zoned_lawful, lawful}
use Rattle.value.specs.Fields.{needed, text_at, text_payload, time_field, extent_at, field_at}
use Rattle.value.specs.declared.Field.TheVariants as field
use Rattle.form.specs.Canonical.{with_units, length_of, header_of}
use Rattle.grammar.specs.Grammar.{TextData, HeaderBytes}
use Rattle.grammar.proofs.Leaves.{number_found}
use Rattle.form_laws.proofs.Lists.{clash, drop_byte, Piece, piece}

-- a text whose length can be spelled: an even number of bytes
pub record Fit (t : List ℕ) : Type 0 where
  pub even : 2 * (length t / 2) ≡ length t
  pub small : length t / 2 ≤ largest

-- ---- the length of each listed value is a number of at least five bytes

abbrev wide : Shape → Bool
wide Nothing = true
wide (Fixed size) = true
wide (Text most) = leb 5 most
wide (Blob most) = leb 5 most
wide (CodePage most) = leb 5 most
wide Decimal = true
wide Qname = true
wide (Stamp low) = true
wide (Date first last) = true
wide (Time first last) = true
wide (ZonedTime first last) = true

abbrev all_wide : List Token → Bool
all_wide [] = true
all_wide (t ∷ ts) = wide t.shape && all_wide ts

wide_found : (code : ℕ) (ts : List Token) → all_wide ts ≡ true → wide (find code ts).shape ≡ true
wide_found code [] h = refl
wide_found code (t ∷ ts) h =
    cond_if (λ (x : Token). wide x.shape ≡ true) (eqb code t.code) t (find code ts) (λ e. and_left (wide t.shape) _ h)
    (λ e. wide_found code ts (and_right (wide t.shape) _ h))

wide_shape : (code : ℕ) → wide (shape_of code) ≡ true
unfolding shape_of
wide_shape code = wide_found code tokens refl

module _ (d : List ℕ) where
  -- ---- numbers and texts

  pub record NumberAt (most p n : ℕ) (w : List ℕ) : Type 0 where
    pub next : ℕ
    pub read : number_at most d p ≡ Ok (number n next)
    pub inside : next ≤ length d
    pub after : drop next d ≡ w

  pub number_at_fact : (most p n : ℕ) (w : List ℕ) → 5 ≤ most → n ≤ largest → drop p d ≡ shortest n ++ w → NumberAt most p n w
  number_at_fact most p n w m l e =
      let r = shortest_read most d p n w m l e in
      let i = is_within (length d) p r (number_within most d p) in
      let x = piece d p (shortest n) w (omega arith) e in
      record { next = p + length (shortest n); read = r; inside = i.1; after = x.after }

  pub record TextAt (p : ℕ) (t w : List ℕ) : Type 0 where
    pub place : ℕ
    pub read : TextData d p place (length t / 2)
    pub is : part d place (2 * (length t / 2)) ≡ t
    pub after : drop (place + 2 * (length t / 2)) d ≡ w

  pub text_at_fact : (p : ℕ) (t w : List ℕ) → Fit t → drop p d ≡ with_units t ++ w → TextAt p t w
  unfolding with_units
  text_at_fact p t w f e =
      let n = number_at_fact 5 p (length t / 2) (t ++ w) (omega arith) f.small (e ∙ append_assoc (shortest (length t / 2)) t w) in
      let x = piece d n.next t w n.inside n.after in
      record {
        place = n.next;
        read = record { length32 = number_found d 5 p n.read; there = rw f.even x.inside };
        is = rw f.even x.is;
        after = rw f.even x.after;
      }

  -- ---- headers

  pub header_at : (p version : ℕ) (w : List ℕ) → 1 ≤ version → version ≤ 2 → drop p d ≡ header_of version ++ w → HeaderBytes d p version × (drop (p + 5) d ≡ w)
  unfolding header_of
  header_at p version w l h e =
      let z2 : (p + 1) + 1 ≡ p + 2 = omega arith in
      let z3 : (p + 2) + 1 ≡ p + 3 = omega arith in
      let z4 : (p + 3) + 1 ≡ p + 4 = omega arith in
      let z5 : (p + 4) + 1 ≡ p + 5 = omega arith in
      let b0 = drop_byte d p e in
      let b1 = drop_byte d (p + 1) b0.1 in
      let b2 = drop_byte d (p + 2) (rw z2 at b1.1) in
      let b3 = drop_byte d (p + 3) (rw z3 at b2.1) in
      let b4 = drop_byte d (p + 4) (rw z4 at b3.1) in
      (record { signature = b0.0; signature' = b1.0; version_is = b2.0; version_low = l; version_high = h; encoding = b3.0; encoding' = b4.0 }, rw z5 at b4.1)

  -- ---- payloads

  -- the payload before the rules on its bytes
  record ExtentAt (h : Shape) (at : ℕ) (p w : List ℕ) : Type 0 where
    place : ℕ
    read : extent_at h d at ≡ Ok (field.Payload place (length p))
    there : Piece d place p w

  needed_at : (at size : ℕ) (p w : List ℕ) → length p ≡ size → at ≤ length d → drop at d ≡ p ++ w → (needed d at size ≡ Ok (field.Payload at (length p))) × Piece d at p w
  unfolding needed
  needed_at at size p w s l e = let x = piece d at p w l e in (rw (← s, le-leb _ _ x.inside), x)

  -- a time's precision is its payload's first byte
  time_at : (at more : ℕ) (p w : List ℕ) → leb (get_or p 0 0) 7 ≡ true → length p ≡ 1 + time_bytes (get_or p 0 0) + more → drop (at + 1) d ≡ p ++ w
      → (time_field d at more ≡ Ok (field.Payload (at + 1) (length p))) × Piece d (at + 1) p w
  unfolding time_field
  time_at at more [] w a s e = absurd (let q : ⊥ = omega arith in q)
  time_at at more (y ∷ p) w a s e =
      let b = drop_byte d (at + 1) e in
      let n = needed_at (at + 1) (1 + time_bytes y + more) (y ∷ p) w s (omega (arith, b.0.inside)) e in
      (rw (lt-ltb _ _ b.0.inside, b.0.is, a) n.0, n.1)

  text_payload_fact : (most p units next size : ℕ) → number_at most d p ≡ Ok (number units next) → 2 * units ≡ size → next + size ≤ length d
      → text_payload (text_at most d p) ≡ Ok (field.Payload next size)
  unfolding text_at
  text_payload_fact most p units next size e u i = rw (e, u, le-leb _ _ i, u)

  extent_at_fact : (h : Shape) (at : ℕ) (p w : List ℕ) → wide h ≡ true → lawful h p ≡ true → length p ≤ largest → at < length d
      → drop (at + 1) d ≡ length_of h p ++ (p ++ w) → ExtentAt h at p w
  unfolding extent_at lawful length_of text_at decimal_lawful time_lawful zoned_lawful
  extent_at_fact Nothing at p w m l s i e =
      let x = needed_at (at + 1) 0 p w (eqb-true _ _ l) (omega arith) e in
      record { place = at + 1; read = x.0; there = x.1 }
  extent_at_fact (Fixed size) at p w m l s i e =
      let x = needed_at (at + 1) size p w (eqb-true _ _ l) (omega arith) e in
      record { place = at + 1; read = x.0; there = x.1 }
  extent_at_fact (Text most) at p w m l s i e =
      let z : length p % 2 ≡ 0 = eqb-true _ _ l in
      let u : 2 * (length p / 2) ≡ length p = omega arith in
      let n = number_at_fact most (at + 1) (length p / 2) (p ++ w) (leb-true 5 most m) (omega arith) e in
      let x = piece d n.next p w n.inside n.after in
      record { place = n.next; read = text_payload_fact most (at + 1) (length p / 2) n.next (length p) n.read u x.inside; there = x }
  extent_at_fact (Blob most) at p w m l s i e =
      let n = number_at_fact most (at + 1) (length p) (p ++ w) (leb-true 5 most m) s e in
      let x = needed_at n.next (length p) p w refl n.inside n.after in
      record { place = n.next; read = rw n.read x.0; there = x.1 }
  extent_at_fact (CodePage most) at p w m l s i e =
      let n = number_at_fact most (at + 1) (length p) (p ++ w) (leb-true 5 most m) s e in
      let x = needed_at n.next (length p) p w refl n.inside n.after in
      record { place = n.next; read = rw n.read x.0; there = x.1 }
  extent_at_fact Decimal at p w m l s i e =
      let n = number_at_fact 5 (at + 1) (length p) (p ++ w) (omega arith) s e in
      let x = needed_at n.next (length p) p w refl n.inside n.after in
      let a = decimal_size (length p) && leb (get_or p 0 0) 38 && leb (get_or p 1 0) (get_or p 0 0) in
      let b = decimal_size (length p) && leb (get_or p 0 0) 38 in
      let z : decimal_size (length p) ≡ true = and_left (decimal_size (length p)) _ (and_left b _ (and_left a _ l)) in
      record { place = n.next; read = rw (n.read, z) x.0; there = x.1 }
  extent_at_fact Qname at p w m l s i e = clash (cc)
  extent_at_fact (Stamp low) at p w m l s i e =
      let x = needed_at (at + 1) 8 p w (eqb-true _ _ (and_left (eqb (length p) 8) _ l)) (omega arith) e in
      record { place = at + 1; read = x.0; there = x.1 }
  extent_at_fact (Date first last) at p w m l s i e =
      let x = needed_at (at + 1) 3 p w (eqb-true _ _ (and_left (eqb (length p) 3) _ l)) (omega arith) e in
      record { place = at + 1; read = x.0; there = x.1 }
  extent_at_fact (Time first last) at p w m l s i e =
      let a = leb (get_or p 0 0) 7 && eqb (length p) (1 + time_bytes (get_or p 0 0) + 3) in
      let x = time_at at 3 p w (and_left (leb (get_or p 0 0) 7) _ (and_left a _ l)) (eqb-true _ _ (and_right (leb (get_or p 0 0) 7) _ (and_left a _ l))) e in
      record { place = at + 1; read = x.0; there = x.1 }
  extent_at_fact (ZonedTime first last) at p w m l s i e =
      let k = and_left (time_lawful 5 first last p) _ l in
      let a = leb (get_or p 0 0) 7 && eqb (length p) (1 + time_bytes (get_or p 0 0) + 5) in
      let x = time_at at 5 p w (and_left (leb (get_or p 0 0) 7) _ (and_left a _ k)) (eqb-true _ _ (and_right (leb (get_or p 0 0) 7) _ (and_left a _ k))) e in
      record { place = at + 1; read = x.0; there = x.1 }

  pub record PayloadAt (h : Shape) (at : ℕ) (p w : List ℕ) : Type 0 where
    pub place : ℕ
    pub read : field_at h d at ≡ Ok (field.Payload place (length p))
    pub there : Piece d place p w

  -- a lawful payload after its token is read back
  pub payload_at : (code at : ℕ) (p w : List ℕ) → lawful (shape_of code) p ≡ true → length p ≤ largest → at < length d
      → drop (at + 1) d ≡ length_of (shape_of code) p ++ (p ++ w) → PayloadAt (shape_of code) at p w
  unfolding field_at
  payload_at code at p w l s i e =
      let x = extent_at_fact (shape_of code) at p w (wide_shape code) l s i e in
      record { place = x.place; read = rw (x.read, x.there.is, l); there = x.there }
