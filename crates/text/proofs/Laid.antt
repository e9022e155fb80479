-- A text laid into a lent buffer, or refused for its room; and each way out of `show`. Assumes nothing.
use Prim.Native.Nat.{ℕ, ◌+◌, ◌*◌, ◌/◌, ◌≤◌, ◌<◌}
use mathlib.Core.Path.{◌≡◌, refl, sym, ◌∙◌, ap, subst}
use mathlib.Core.Bool.{Bool, true, false, cond}
use mathlib.Core.Option.{Option, none, some}
use mathlib.Core.List.{List}
use native.Mathlib.Omega.{arith}
use lib.ListN.{length}
use lib.Dec.{leb}
use borrow.Author.Tests.{leb-true}
use Rattle.sequences.specs.Lists.{overlay, bytes_of}
use Rattle.sequences.proofs.Tests.{tests, cond_if}
use Rattle.sequences.proofs.Overlay.{length_overlay}
use Rattle.sequences.proofs.Units.{length_bytes_of}
use Rattle.token.specs.Tokens.{accepted, no_room}
use Rattle.numeral.specs.Numeral.{numeral, truth}
use Rattle.chunks.specs.Chunks.{chunks_value}
use Rattle.chunks.specs.declared.Chunks.{Chunks}
use Rattle.hexadecimal.specs.Hexadecimal.{hex}
use Rattle.base64_text.specs.Base64.{base64}
use Rattle.hexadecimal.proofs.Hex.{length_hex}
use Rattle.base64_text.proofs.Base64.{length_base64}
use Rattle.text.specs.declared.Shown.{Shown}
use Rattle.text.specs.declared.Shown.TheVariants.{Own, Made, Short, NoText}
use Rattle.plan.specs.declared.Plan.{Plan}
use Rattle.plan.specs.declared.Plan.TheVariants.{Nothing, Payload, Number, Boolean, HexDigits, Base64Letters}
use Rattle.plan.specs.Text.{kind_of, text_of, is_same}
use Rattle.text.specs.Shows.{laid, laid_in, shown_by, held_by, with_count, text_answer, shown_answer, Shows}
use Rattle.plan.specs.Plans.{NumberFits, PayloadFits, Means}
use Rattle.text.specs.Lays.{Lays}

-- ---- the room

module _ (units before : List ℕ) {need : ℕ} (e : need ≡ 2 * length units) where
  bytes_needed : length (bytes_of units) ≡ need
  bytes_needed = length_bytes_of units ∙ sym e

  pub lays_short : length before < need → Lays units before before (Short need)
  unfolding laid laid_in
  lays_short h = record { answer = simp (tests, bytes_needed, h); holds = simp (tests, bytes_needed, h) }

  pub lays_made : need ≤ length before → {after : List ℕ} → after ≡ overlay (bytes_of units) before → Lays units before after (Made need)
  unfolding laid laid_in
  lays_made h o = record { answer = simp (tests, bytes_needed, h); holds = o ∙ simp (tests, bytes_needed, h) }

-- a buffer keeps its length
pub lays_length : {units before after : List ℕ} {r : Shown} → Lays units before after r → length after ≡ length before
unfolding laid_in
lays_length {units} {before} l =
    ap length l.holds
    ∙ cond_if (λ (x : List ℕ). length x ≡ length before) (leb (length (bytes_of units)) (length before)) _ _
    (λ t. length_overlay (bytes_of units) before (leb-true _ _ t))
    (λ f. refl)

-- ---- the length of each text

-- that of the text of the small buffer
pub need_small : {text small : List ℕ} (units : List ℕ) → text ≡ small → small ≡ bytes_of units → length text ≡ 2 * length units
need_small units e f = ap length (e ∙ f) ∙ length_bytes_of units

pub need_hex : (p : List ℕ) → 4 * length p ≡ 2 * length (hex p)
need_hex p = let e = length_hex p in omega arith

pub need_base64 : (p : List ℕ) → (length p + 2) / 3 * 8 ≡ 2 * length (base64 p)
need_base64 p = let e = length_base64 p in omega arith

-- ---- showing

-- 01's number and count of each case
case_number : (own : Bool) (text : Option (List ℕ)) (room : ℕ) → text_answer (shown_by own text room) ≡ shown_answer own text room
unfolding laid
case_number true none room = refl
case_number false none room = refl
case_number true (some units) room = refl
case_number false (some units) room = go (leb (length (bytes_of units)) room)
  where
    go : (t : Bool) → text_answer (cond t (Made (length (bytes_of units))) (Short (length (bytes_of units))))
        ≡ cond t (with_count accepted (length (bytes_of units))) (with_count no_room (length (bytes_of units)))
    go true = refl
    go false = refl

module _ (token : ℕ) (p : List ℕ) {plan : Plan} (m : Means (text_of token p) (is_same (kind_of token)) p plan) where
  -- what the plan means, in the arm of its `match`
  told : {q : Plan} → plan ≡ q → Means (text_of token p) (is_same (kind_of token)) p q
  told e = subst (λ (x : Plan). Means (text_of token p) (is_same (kind_of token)) p x) e m

  pub number_told : {q : Plan} → plan ≡ q → NumberFits q
  number_told e = (told e).number_fits

  pub payload_told : {q : Plan} → plan ≡ q → PayloadFits q p
  payload_told e = (told e).payload_fits

  module _ (before : List ℕ) where
    -- the case of an answer tells its number
    shows_by : {after : List ℕ} {r : Shown} → r ≡ shown_by (is_same (kind_of token)) (text_of token p) (length before)
        → after ≡ held_by (is_same (kind_of token)) (text_of token p) before → Shows token p before after r
    shows_by e h = record { number_is = ap text_answer e ∙ case_number (is_same (kind_of token)) (text_of token p) (length before); answer = e; holds = h }

    pub shows_none : plan ≡ Nothing → Shows token p before before NoText
    shows_none e = let t = (told e).text_is in shows_by (rw t) (rw t)

    pub shows_own : plan ≡ Payload → Shows token p before before (Own (length p))
    shows_own e =
        let t = (told e).text_is in
        let o = (told e).own_is in
        shows_by (rw (t, o) (ap Own (told e).payload_fits)) (rw (t, o))

    laid_by : {units after : List ℕ} {r : Shown} → text_of token p ≡ some units → is_same (kind_of token) ≡ false → Lays units before after r
        → Shows token p before after r
    laid_by t o l = shows_by (rw (t, o) l.answer) (rw (t, o) l.holds)

    pub shows_number : {minus : Bool} {size : Chunks} {scale : ℕ} {after : List ℕ} {r : Shown} → plan ≡ Number minus size scale
        → Lays (numeral minus (chunks_value size) scale) before after r → Shows token p before after r
    shows_number e l = laid_by (told e).text_is (told e).own_is l

    pub shows_boolean : {b : Bool} {after : List ℕ} {r : Shown} → plan ≡ Boolean b → Lays (truth b) before after r → Shows token p before after r
    shows_boolean e l = laid_by (told e).text_is (told e).own_is l

    pub shows_hex : {after : List ℕ} {r : Shown} → plan ≡ HexDigits → Lays (hex p) before after r → Shows token p before after r
    shows_hex e l = laid_by (told e).text_is (told e).own_is l

    pub shows_base64 : {after : List ℕ} {r : Shown} → plan ≡ Base64Letters → Lays (base64 p) before after r → Shows token p before after r
    shows_base64 e l = laid_by (told e).text_is (told e).own_is l
