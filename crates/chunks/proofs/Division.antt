-- Long division of four limbs by 10^9, and the chunks that its rests make. Assumes nothing.
use Prim.Native.Nat.{ℕ, ◌+◌, ◌*◌, ◌/◌, ◌%◌, ◌^◌, ◌<◌}
use mathlib.Core.Path.{◌≡◌, sym, ◌∙◌}
use native.Mathlib.Nat.{div-div-eq-div-mul, div-lt_iff_lt-mul, lt_of_lt_of_le}
use native.Mathlib.Omega.{arith}
use lib.Dec.{lit<, lit≤}
use Rattle.chunks.specs.declared.Chunks.{Chunks}
use Rattle.chunks.specs.declared.Limbs.{Limbs}
use Rattle.chunks.specs.Chunks.{chunks_value, Chunked, limbs_value, LimbsFit, Divides}

-- ---- one limb more

div_limb : (l x : ℕ)
    → (l + 4294967296 * x) / 1000000000 ≡ (x % 1000000000 * 4294967296 + l) / 1000000000 + 4294967296 * (x / 1000000000)
div_limb l x = omega arith

mod_limb : (l x : ℕ)
    → (l + 4294967296 * x) % 1000000000 ≡ (x % 1000000000 * 4294967296 + l) % 1000000000
mod_limb l x = let e = div_limb l x in omega arith

limb_fits : (r a : ℕ) → a < 4294967296 → (r % 1000000000 * 4294967296 + a) / 1000000000 < 4294967296
limb_fits r a h = omega arith

top_fits : (d : ℕ) → d < 4294967296 → d / 1000000000 < 4294967296
top_fits d h = omega arith

-- what the code computes is the division
pub divides : (l : Limbs) → LimbsFit l →
    let x = l.d % 1000000000 * 4294967296 + l.c in
    let y = x % 1000000000 * 4294967296 + l.b in
    let z = y % 1000000000 * 4294967296 + l.a in
    Divides l (record { a = z / 1000000000; b = y / 1000000000; c = x / 1000000000; d = l.d / 1000000000 }) (z % 1000000000)
divides l s = record {
  quotient_is = simp (div_limb, mod_limb);
  rest_is = simp mod_limb;
  fits = record {
    a_fits = limb_fits _ l.a s.a_fits;
    b_fits = limb_fits _ l.b s.b_fits;
    c_fits = limb_fits l.d l.c s.c_fits;
    d_fits = top_fits l.d s.d_fits;
  };
}

-- ---- four divisions, one after the other

-- the number 2 ^ 128 has too many digits for omega: the bound is a variable here
under : {l x m : ℕ} → l < 4294967296 → x < m → l + 4294967296 * x < 4294967296 * m
under h k = omega arith

limbs_below : (l : Limbs) → LimbsFit l → limbs_value l < 2 ^ 128
limbs_below l s = under s.a_fits (under s.b_fits (under s.c_fits s.d_fits))

over_36_digits : (n : ℕ) → n < 2 ^ 128 → n / 1000000000 / 1000000000 / 1000000000 / 1000000000 < 341
over_36_digits n h =
    let power = 1000000000 * 1000000000 * 1000000000 * 1000000000 in
    let below : n < 341 * power = lt_of_lt_of_le h (lit≤ tt) in
    rw (div-div-eq-div-mul, div-div-eq-div-mul, div-div-eq-div-mul)
    ((div-lt_iff_lt-mul {k = power} {x = n} {y = 341} (lit< tt)).1 below)

back : {n q r : ℕ} → q ≡ n / 1000000000 → r ≡ n % 1000000000 → n ≡ r + 1000000000 * q
back e f = omega arith

joined : (s t u v q : ℕ) {n a b c : ℕ}
    → n ≡ s + 1000000000 * a → a ≡ t + 1000000000 * b → b ≡ u + 1000000000 * c → c ≡ v + 1000000000 * q
    → s + 1000000000 * t + 1000000000000000000 * (u + 1000000000 * v + 1000000000000000000 * q) ≡ n
joined s t u v q e f g h = omega arith

only_limb : (a above : ℕ) {n : ℕ} → a + 4294967296 * above ≡ n → n < 341 → a + 4294967296 * above ≡ a
only_limb a above e h = omega arith

two_rests : {a b : ℕ} (x y : ℕ) → a ≡ x % 1000000000 → b ≡ y % 1000000000 → a + 1000000000 * b < 1000000000000000000
two_rests x y e f = omega arith

high_fits : {a n m : ℕ} → a ≡ n → n ≡ m → m < 341 → a < 1000000000000000000
high_fits e f h = omega arith

-- the chunks that the code makes of the rests
abbrev rests : (s t u v : ℕ) → Limbs → Chunks
rests s t u v q = record { low = s + 1000000000 * t; mid = u + 1000000000 * v; high = q.a; left = 18 }

pub chunks : {l q₁ q₂ q₃ q₄ : Limbs} {s t u v : ℕ} → LimbsFit l
    → Divides l q₁ s → Divides q₁ q₂ t → Divides q₂ q₃ u → Divides q₃ q₄ v
    → (chunks_value (rests s t u v q₄) ≡ limbs_value l) × Chunked (rests s t u v q₄) × (chunks_value (rests s t u v q₄) < 10 ^ 39)
chunks {l} {q₁} {q₂} {q₃} {q₄} {s} {t} {u} {v} f a b c d =
    let last : limbs_value q₄ ≡ limbs_value l / 1000000000 / 1000000000 / 1000000000 / 1000000000 =
    rw (d.quotient_is, c.quotient_is, b.quotient_is, a.quotient_is) in
    let few = over_36_digits (limbs_value l) (limbs_below l f) in
    let only = only_limb q₄.a (q₄.b + 4294967296 * (q₄.c + 4294967296 * q₄.d)) last few in
    let same : chunks_value (rests s t u v q₄) ≡ limbs_value l =
    joined s t u v q₄.a
    (back a.quotient_is a.rest_is)
    (back b.quotient_is b.rest_is)
    (back c.quotient_is c.rest_is)
    (back (sym only ∙ d.quotient_is) d.rest_is) in (
      same,
      record {
        low_fits = two_rests _ _ a.rest_is b.rest_is;
        mid_fits = two_rests _ _ c.rest_is d.rest_is;
        high_fits = high_fits (sym only) last few;
        some_left = lit< tt;
        few_left = lit≤ tt;
      },
      rw same (lt_of_lt_of_le (limbs_below l f) (lit≤ tt)),
    )
