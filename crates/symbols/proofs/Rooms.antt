-- How much room a text wants, from the size of its payload. Assumes nothing.
use Prim.Native.Nat.{ℕ, zero, suc, ◌+◌, ◌-◌, ◌*◌, ◌/◌, ◌^◌, ◌≤◌, ◌<◌}
use mathlib.Core.Path.{◌≡◌, refl, ap}
use mathlib.Core.Bool.{Bool, true, false, cond, not, ◌&&◌}
use mathlib.Core.Option.{some}
use mathlib.Core.List.{List, [], ◌∷◌}
use native.Mathlib.Nat.{lt_of_le_of_lt, div-le_self, pow-succ'}
use native.Mathlib.Omega.{arith}
use lib.ListN.{length, get_or, length-append}
use lib.Dec.{eqb, leb, lit<}
use borrow.Author.Tests.{leb-true}
use Rattle.sequences.specs.Lists.{Bytes, little}
use Rattle.sequences.proofs.Tests.{and_left, and_right, cond_if}
use Rattle.sequences.proofs.Units.{little_below}
use Rattle.numeral.specs.Numeral.{numeral, truth}
use Rattle.numeral.proofs.Digits.{length_fraction}
use Rattle.numeral.proofs.Facts.{digits_length}
use Rattle.chunks.proofs.Words.{size_within}
use Rattle.plan.specs.declared.Kind.{Kind}
use Rattle.plan.specs.declared.Kind.TheVariants.{Unshown, Same, Signed, Unsigned, Truth, Decimal, Hex, Base64}
use Rattle.plan.specs.declared.Plan.{Plan}
use Rattle.plan.specs.declared.Plan.TheVariants.{Nothing, Payload, Number, Boolean, HexDigits, Base64Letters}
use Rattle.plan.specs.Text.{kinds, kind_in, kind_of, signed_text, shown, text_of}
use Rattle.plan.specs.Plans.{Ruled, units_by, Means}
use Rattle.plan.specs.Lengths.{Long}
use Rattle.plan.proofs.Rules.{ruled, decimal_sized}
use Rattle.plan.proofs.Lengths.{text_told, text_length}

-- ---- numbers

length_sign : (minus zero : Bool) → length {A = ℕ} (cond minus (cond zero [] (45 ∷ [])) []) ≤ 1
length_sign true true = omega arith
length_sign true false = omega arith
length_sign false b = omega arith

-- sign and point, the digits before the point and those after it
pub numeral_few : (minus : Bool) (n scale k : ℕ) → n < 10 ^ suc k → length (numeral minus n scale) ≤ k + scale + 3
unfolding numeral
numeral_few minus n scale k h =
    let w = digits_length k (n / 10 ^ scale) (lt_of_le_of_lt (div-le_self n (10 ^ scale)) h) in
    let f = length_fraction scale n in
    let g = length_sign minus (eqb n 0) in
    simp length-append (omega arith)

-- three decimal digits for each byte
word_few : (w : ℕ) → 256 ^ w < 10 ^ suc (3 * w)
word_few zero = lit< tt
word_few (suc w) =
    let i = word_few w in
    let z : 3 * suc w ≡ suc (suc (suc (3 * w))) = omega arith in
    let a = pow-succ' 256 w in
    let b = pow-succ' 10 (suc (3 * w)) in
    let c = pow-succ' 10 (suc (suc (3 * w))) in
    let d = pow-succ' 10 (suc (suc (suc (3 * w)))) in
    rw z (omega arith)

word_room : (minus : Bool) (n scale w : ℕ) → n ≤ 256 ^ w → length (numeral minus n scale) ≤ 3 * w + scale + 3
word_room minus n scale w h = numeral_few minus n scale (3 * w) (lt_of_le_of_lt h (word_few w))

signed_room : (p : List ℕ) (scale : ℕ) → Bytes p → length (signed_text p scale) ≤ 3 * length p + scale + 3
unfolding signed_text
signed_room p scale b =
    let l = little_below p b in
    cond_if (λ (x : List ℕ). length x ≤ 3 * length p + scale + 3) (leb (256 ^ length p / 2) (little p)) _ _
    (λ t. word_room true (256 ^ length p - little p) scale (length p) (omega arith))
    (λ f. word_room false (little p) scale (length p) (omega arith))

-- ---- scales

-- the digits after the point that a kind gives
abbrev scale_of : Kind → ℕ
scale_of Unshown = 0
scale_of Same = 0
scale_of (Signed scale) = scale
scale_of Unsigned = 0
scale_of Truth = 0
scale_of Decimal = 0
scale_of Hex = 0
scale_of Base64 = 0

abbrev few_scaled : List (ℕ × Kind) → Bool
few_scaled [] = true
few_scaled (row ∷ rows) = leb (scale_of row.1) 4 && few_scaled rows

scaled_in : (token : ℕ) (rows : List (ℕ × Kind)) → few_scaled rows ≡ true → scale_of (kind_in token rows) ≤ 4
scaled_in token [] e = omega arith
scaled_in token (row ∷ rows) e =
    cond_if (λ (kind : Kind). scale_of kind ≤ 4) (eqb token row.0) row.1 (kind_in token rows)
    (λ t. leb-true _ _ (and_left (leb (scale_of row.1) 4) (few_scaled rows) e))
    (λ f. scaled_in token rows (and_right (leb (scale_of row.1) 4) (few_scaled rows) e))

-- money has four digits after the point, any other number of so many bytes none
scaled : (token : ℕ) → scale_of (kind_of token) ≤ 4
unfolding kind_of
scaled token = scaled_in token kinds refl

-- ---- every kind

same : {a b : List ℕ} → some a ≡ some b → length a ≡ length b
same {a} {b} e = let f : a ≡ b = cc in ap length f

truth_few : (t : Bool) → length (truth t) ≤ 5
truth_few true = omega arith
truth_few false = omega arith

signed_some : (p : List ℕ) (scale : ℕ) → Ruled (Signed scale) p → 0 < length p
signed_some p scale k = (size_within (length p) k.0).0

kind_room : (kind : Kind) (p us : List ℕ) → Bytes p → Ruled kind p → scale_of kind ≤ 4 → shown kind p ≡ some us → Long kind (length p) (length us)
    → length us ≤ 6 + 5 * length p
unfolding shown
kind_room Unshown p us b k s e l = absurd l
kind_room Same p us b k s e l = omega arith
kind_room (Signed scale) p us b k s e l =
    let f = same e in
    let n = signed_some p scale k in
    let r = signed_room p scale b in
    omega arith
kind_room Unsigned p us b k s e l =
    let f = same e in
    let n = little_below p b in
    let r = word_room false (little p) 0 (length p) (omega arith) in
    omega arith
kind_room Truth p us b k s e l =
    let f = same e in
    let r = truth_few (not (eqb (get_or p 0 0) 0)) in
    omega arith
kind_room Decimal p us b k s e l = let n = (decimal_sized p k).least in omega arith
kind_room Hex p us b k s e l = omega arith
kind_room Base64 p us b k s e l = omega arith

-- a bound for every text
pub text_room_lem : (token : ℕ) (p us : List ℕ) → Bytes p → text_of token p ≡ some us → length us ≤ 6 + 5 * length p
text_room_lem token p us b e =
    let t = text_told token p us e in
    kind_room (kind_of token) p us b (ruled token p t.obeys) (scaled token) t.by_kind (text_length token p us b e)

-- the same for the units that a plan stands for
pub plan_room : (token : ℕ) {own : Bool} (plan : Plan) (p : List ℕ) → Bytes p → Means (text_of token p) own p plan
    → length (units_by plan p) ≤ 6 + 5 * length p
plan_room token Nothing p b m = omega arith
plan_room token Payload p b m = text_room_lem token p _ b m.text_is
plan_room token (Number minus size scale) p b m = text_room_lem token p _ b m.text_is
plan_room token (Boolean t) p b m = text_room_lem token p _ b m.text_is
plan_room token HexDigits p b m = text_room_lem token p _ b m.text_is
plan_room token Base64Letters p b m = text_room_lem token p _ b m.text_is
