-- Each way out of the functions that make a plan, as a law of the definitions. Assumes nothing.
use Prim.Native.Nat.{ℕ, suc, ◌+◌, ◌-◌, ◌*◌, ◌/◌, ◌%◌, ◌^◌, ◌≤◌, ◌<◌}
use mathlib.Core.Path.{◌≡◌, refl, sym, ◌∙◌, subst}
use mathlib.Core.Bool.{Bool, true, false, not}
use mathlib.Core.Option.{Option}
use mathlib.Core.List.{List, [], ◌∷◌}
use native.Mathlib.Nat.{lt_of_lt_of_le, pow-le-pow_right}
use native.Mathlib.Omega.{arith}
use lib.ListN.{length, get_or, drop}
use lib.Dec.{eqb, lit≤}
use Rattle.sequences.specs.Lists.{little, units_of}
use Rattle.sequences.proofs.Tests.{tests}
use Rattle.token.specs.Tokens.{longest, shape_of}
use Rattle.token.specs.declared.Shape.{Shape}
use Rattle.rules.specs.Rules.{decimal_lawful, lawful}
use Rattle.chunks.specs.declared.Chunks.{Chunks}
use Rattle.chunks.specs.Chunks.{word_size, chunks_value, Chunked}
use Rattle.chunks.proofs.Words.{size_within}
use Rattle.plan.specs.declared.Kind.{Kind}
use Rattle.plan.specs.declared.Kind.TheVariants.{Unshown, Same, Signed, Unsigned, Truth, Decimal, Hex, Base64}
use Rattle.plan.specs.declared.Plan.{Plan}
use Rattle.plan.specs.declared.Plan.TheVariants.{Nothing, Payload, Number, Boolean, HexDigits, Base64Letters}
use Rattle.plan.specs.Text.{kind_of, signed_text, shown, text_of, is_same}
use Rattle.plan.specs.Plans.{Ruled, Means}
use Rattle.plan.proofs.Rules.{decimal_sized}

-- ---- numbers of 1, 2, 4 and 8 bytes

-- such a number is below 10 ^ 39
pub word_small : {x : ℕ} (w : ℕ) → x ≤ 256 ^ w → word_size w ≡ true → x < 10 ^ 39
word_small {x} w h k =
    let p : 256 ^ w ≤ 256 ^ 8 = pow-le-pow_right {n = 256} (omega arith) (size_within w k).1 in
    lt_of_lt_of_le (let q : x < suc (256 ^ 8) = omega arith in q) (lit≤ tt)

pub half_at : (n half : ℕ) {width : ℕ} → width ≡ n → half + half ≡ 256 ^ n → half + half ≡ 256 ^ width
half_at n half e h = rw e h

pub half_sub : (half v w : ℕ) → half + half ≡ 256 ^ w → v < 256 ^ w → v - half ≤ half
half_sub half v w e h = omega arith

module _ (p : List ℕ) (scale : ℕ) (n : Chunks) {v half : ℕ} (g : Chunked n) (k : Ruled (Signed scale) p)
    (e : v ≡ little p) (f : v < 256 ^ length p) (d : half + half ≡ 256 ^ length p) where
  pub signed_minus : half ≤ v → chunks_value n ≡ half - (v - half) → Means (shown (Signed scale) p) false p (Number true n scale)
  unfolding shown signed_text
  signed_minus h x =
      let z : 256 ^ length p / 2 ≡ half = omega arith in
      let y : chunks_value n ≡ 256 ^ length p - v = omega arith in
      let q : chunks_value n ≤ 256 ^ length p = omega arith in
      record {
        text_is = simp (tests, z, ← e, h, y);
        own_is = refl;
        number_fits = (g, k.1, word_small (length p) q k.0);
        payload_fits = tt;
      }

  pub signed_plus : v < half → chunks_value n ≡ v → Means (shown (Signed scale) p) false p (Number false n scale)
  unfolding shown signed_text
  signed_plus h x =
      let z : 256 ^ length p / 2 ≡ half = omega arith in
      let q : chunks_value n ≤ 256 ^ length p = omega arith in
      record {
        text_is = simp (tests, z, ← e, h, x);
        own_is = refl;
        number_fits = (g, k.1, word_small (length p) q k.0);
        payload_fits = tt;
      }

pub unsigned_is : (p : List ℕ) (n : Chunks) {v : ℕ} → Chunked n → Ruled Unsigned p → v ≡ little p → v < 256 ^ length p
    → chunks_value n ≡ v → Means (shown Unsigned p) false p (Number false n 0)
unfolding shown
unsigned_is p n {v} g k e f x =
    let q : chunks_value n ≤ 256 ^ length p = omega arith in
    record {
      text_is = simp (← e, x);
      own_is = refl;
      number_fits = (g, lit≤ tt, word_small (length p) q k);
      payload_fits = tt;
    }

-- ---- the other kinds

pub boolean_is : (p : List ℕ) → Means (shown Truth p) false p (Boolean (not (eqb (get_or p 0 0) 0)))
unfolding shown
boolean_is p = record { text_is = refl; own_is = refl; number_fits = tt; payload_fits = tt }

pub decimal_is : (p : List ℕ) (n : Chunks) → decimal_lawful p ≡ true → chunks_value n ≡ little (drop 3 p) → Chunked n → chunks_value n < 10 ^ 39
    → Means (shown Decimal p) false p (Number (eqb (get_or p 2 0) 0) n (get_or p 1 0))
unfolding shown
decimal_is p n h e g b =
    record { text_is = simp (← e); own_is = refl; number_fits = (g, (decimal_sized p h).scale, b); payload_fits = tt }

-- an even number of bytes are whole units
pub units_length : (p : List ℕ) → length p % 2 ≡ 0 → length p ≡ 2 * length (units_of p)
units_length [] h = refl
units_length (a ∷ []) h = absurd (let q : ⊥ = omega arith in q)
units_length (a ∷ b ∷ l) h = let i = units_length l (let e : length l % 2 ≡ 0 = omega arith in e) in omega arith

-- ---- a kind's plan: in the arm of its `match`

module _ (p : List ℕ) {kind : Kind} where
  pub kind_on : {k : Kind} {r : Plan} → kind ≡ k → Means (shown k p) (is_same k) p r → Means (shown kind p) (is_same kind) p r
  kind_on {r = r} e m = subst (λ (x : Kind). Means (shown x p) (is_same x) p r) (sym e) m

  pub rule_on : {k : Kind} → kind ≡ k → Ruled kind p → Ruled k p
  rule_on e m = subst (λ (x : Kind). Ruled x p) e m

pub unshown_is : (p : List ℕ) → Means (shown Unshown p) false p Nothing
unfolding shown
unshown_is p = record { text_is = refl; own_is = tt; number_fits = tt; payload_fits = tt }

pub same_is : (p : List ℕ) → length p % 2 ≡ 0 → Means (shown Same p) true p Payload
unfolding shown
same_is p h = record { text_is = refl; own_is = refl; number_fits = tt; payload_fits = units_length p h }

pub hex_is : (p : List ℕ) → length p ≤ longest → Means (shown Hex p) false p HexDigits
unfolding shown
hex_is p h = record { text_is = refl; own_is = refl; number_fits = tt; payload_fits = h }

pub base64_is : (p : List ℕ) → length p ≤ longest → Means (shown Base64 p) false p Base64Letters
unfolding shown
base64_is p h = record { text_is = refl; own_is = refl; number_fits = tt; payload_fits = h }

-- ---- a token's plan

pub text_long : (token : ℕ) (p : List ℕ) (own : Bool) → longest < length p → Means (text_of token p) own p Nothing
unfolding text_of
text_long token p own h = record { text_is = simp (tests, h); own_is = tt; number_fits = tt; payload_fits = tt }

module _ (token : ℕ) (p : List ℕ) (l : length p ≤ longest) {shape : Shape} {t : Bool} (s : shape ≡ shape_of token) (o : t ≡ lawful shape p) where
  judged : t ≡ lawful (shape_of token) p
  judged = rw s at o

  pub text_broken : (own : Bool) → t ≡ false → Means (text_of token p) own p Nothing
  unfolding text_of
  text_broken own e =
      let f : lawful (shape_of token) p ≡ false = sym judged ∙ e in
      record { text_is = simp (tests, l, f); own_is = tt; number_fits = tt; payload_fits = tt }

  pub text_lawful : t ≡ true → lawful (shape_of token) p ≡ true
  text_lawful e = sym judged ∙ e

-- a payload that is not too long and obeys its rule has the text of its kind
pub text_kept : (token : ℕ) (p : List ℕ) → lawful (shape_of token) p ≡ true → length p ≤ longest
    → {kind : Kind} {r : Plan} → kind ≡ kind_of token → Means (shown kind p) (is_same kind) p r → Means (text_of token p) (is_same (kind_of token)) p r
unfolding text_of
text_kept token p f l {r = r} k m =
    let z : shown (kind_of token) p ≡ text_of token p = simp (tests, l, f) in
    let n = subst (λ (x : Kind). Means (shown x p) (is_same x) p r) k m in
    subst (λ (x : Option (List ℕ)). Means x (is_same (kind_of token)) p r) z n
