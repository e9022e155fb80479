-- How long a text is: from its kind and payload, and at most 41 units for a number (01, "Text of a value"). Assumes nothing.
use Prim.Native.Nat.{ℕ, ◌+◌, ◌-◌, ◌*◌, ◌/◌, ◌^◌, ◌≤◌, ◌<◌}
use mathlib.Core.Path.{◌≡◌, refl, sym, ◌∙◌, ap}
use mathlib.Core.Bool.{Bool, true, false, cond, not}
use mathlib.Core.Option.{Option, none, some}
use mathlib.Core.List.{List}
use native.Mathlib.Nat.{lt_of_lt_of_le, pow-le-pow_right}
use native.Mathlib.Omega.{arith}
use lib.ListN.{length, get_or, drop, length-drop}
use lib.Dec.{leb, eqb, lit≤}
use borrow.Author.Tests.{leb-true}
use Rattle.sequences.specs.Lists.{Bytes, little}
use Rattle.sequences.proofs.Tests.{cond_if}
use Rattle.sequences.proofs.Units.{bytes_drop, little_below}
use Rattle.token.specs.Tokens.{longest, shape_of}
use Rattle.rules.specs.Rules.{lawful}
use Rattle.numeral.specs.Numeral.{truth}
use Rattle.chunks.specs.Chunks.{word_size}
use Rattle.numeral.proofs.Facts.{at_most_41}
use Rattle.hexadecimal.proofs.Hex.{length_hex}
use Rattle.base64_text.proofs.Base64.{length_base64}
use Rattle.plan.specs.declared.Kind.{Kind}
use Rattle.plan.specs.declared.Kind.TheVariants.{Unshown, Same, Signed, Unsigned, Truth, Decimal, Hex, Base64}
use Rattle.plan.specs.Text.{kind_of, signed_text, shown, text_of}
use Rattle.plan.specs.Plans.{Ruled}
use Rattle.plan.specs.Lengths.{Long}
use Rattle.plan.proofs.Rules.{never, ruled, decimal_sized}
use Rattle.plan.proofs.Plans.{word_small, units_length}

-- ---- what a text says of its payload

passed : (t : Bool) (x : Option (List ℕ)) {units : List ℕ} → cond t x none ≡ some units → (t ≡ true) × (x ≡ some units)
passed true x e = (refl, e)
passed false x e = never (cc)

-- a payload with a text is not too long, obeys its token's rule, and its kind gives the text
pub record Told (token : ℕ) (p units : List ℕ) : Type 0 where
  pub short : length p ≤ longest
  pub obeys : lawful (shape_of token) p ≡ true
  pub by_kind : shown (kind_of token) p ≡ some units

pub text_told : (token : ℕ) (p units : List ℕ) → text_of token p ≡ some units → Told token p units
unfolding text_of
text_told token p units e =
    let a = passed (leb (length p) longest) _ e in
    let b = passed (lawful (shape_of token) p) _ a.1 in
    record { short = leb-true _ _ a.0; obeys = b.0; by_kind = b.1 }

-- ---- numbers

word_below : (p : List ℕ) → Bytes p → word_size (length p) ≡ true → little p < 10 ^ 39
word_below p b h = let l = little_below p b in word_small (length p) (let q : little p ≤ 256 ^ length p = omega arith in q) h

signed_short : (p : List ℕ) (scale : ℕ) → Bytes p → Ruled (Signed scale) p → length (signed_text p scale) ≤ 41
unfolding signed_text
signed_short p scale b k =
    let m : 256 ^ length p - little p ≤ 256 ^ length p = omega arith in
    cond_if (λ (x : List ℕ). length x ≤ 41) (leb (256 ^ length p / 2) (little p)) _ _
    (λ t. at_most_41 true (256 ^ length p - little p) scale (word_small (length p) m k.0) k.1)
    (λ f. at_most_41 false (little p) scale (word_below p b k.0) k.1)

truth_short : (t : Bool) → length (truth t) ≤ 41
truth_short true = lit≤ tt
truth_short false = lit≤ tt

decimal_below : (p : List ℕ) → Bytes p → length p ≤ 19 → little (drop 3 p) < 10 ^ 39
decimal_below p b h =
    let n = length-drop 3 p in
    let l : little (drop 3 p) < 256 ^ length (drop 3 p) = little_below (drop 3 p) (bytes_drop 3 b) in
    let k : 256 ^ length (drop 3 p) ≤ 256 ^ 16 = pow-le-pow_right {n = 256} (omega arith) (let q : length (drop 3 p) ≤ 16 = omega arith in q) in
    lt_of_lt_of_le (lt_of_lt_of_le l k) (lit≤ tt)

-- ---- every kind

same : {a b : List ℕ} → some a ≡ some b → length a ≡ length b
same {a} {b} e = let f : a ≡ b = cc in ap length f

kind_long : (kind : Kind) (p units : List ℕ) → Bytes p → Ruled kind p → shown kind p ≡ some units → Long kind (length p) (length units)
unfolding shown
kind_long Unshown p units b k e = never (cc)
kind_long Same p units b k e = let f = same e in let n = units_length p k in omega arith
kind_long (Signed scale) p units b k e = rw (same e) at (signed_short p scale b k)
kind_long Unsigned p units b k e = rw (same e) at (at_most_41 false (little p) 0 (word_below p b k) (lit≤ tt))
kind_long Truth p units b k e = rw (same e) at (truth_short (not (eqb (get_or p 0 0) 0)))
kind_long Decimal p units b k e =
    let s = decimal_sized p k in
    rw (same e) at (at_most_41 (eqb (get_or p 2 0) 0) (little (drop 3 p)) (get_or p 1 0) (decimal_below p b s.most) s.scale)
kind_long Hex p units b k e = sym (same e) ∙ length_hex p
kind_long Base64 p units b k e = sym (same e) ∙ length_base64 p

-- the length of a text, from the kind and the payload
pub text_length : (token : ℕ) (p units : List ℕ) → Bytes p → text_of token p ≡ some units → Long (kind_of token) (length p) (length units)
text_length token p units b e =
    let t = text_told token p units e in
    kind_long (kind_of token) p units b (ruled token p t.obeys) t.by_kind

long_short : (kind : Kind) (size units : ℕ) → Long kind size units → units ≤ 41 + 2 * size
long_short Unshown size units h = absurd h
long_short Same size units h = omega arith
long_short (Signed scale) size units h = omega arith
long_short Unsigned size units h = omega arith
long_short Truth size units h = omega arith
long_short Decimal size units h = omega arith
long_short Hex size units h = omega arith
long_short Base64 size units h = omega arith

-- a bound for every text
pub text_short : (token : ℕ) (p units : List ℕ) → Bytes p → text_of token p ≡ some units → length units ≤ 41 + 2 * length p
text_short token p units b e = long_short (kind_of token) (length p) (length units) (text_length token p units b e)
