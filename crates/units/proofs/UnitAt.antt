-- A text read unit by unit: each way out of `load`, `units` and `unit`. Assumes nothing.
use Prim.Native.Nat.{ℕ, zero, suc, ◌+◌, ◌*◌, ◌/◌, ◌≤◌, ◌<◌}
use mathlib.Core.Path.{◌≡◌, refl, sym, ◌∙◌, ap, subst}
use mathlib.Core.Bool.{Bool}
use mathlib.Core.Logic.{◌⊎◌, ⊎_elim}
use mathlib.Core.List.{List, [], ◌∷◌}
use native.Mathlib.Omega.{arith}
use lib.ListN.{length, get_or}
use Rattle.sequences.specs.Lists.{bytes_of, units_of}
use Rattle.sequences.proofs.Units.{length_bytes_of}
use Rattle.token.specs.Tokens.{longest}
use Rattle.numeral.specs.Numeral.{numeral, truth}
use Rattle.chunks.specs.Chunks.{chunks_value}
use Rattle.chunks.specs.declared.Chunks.{Chunks}
use Rattle.hexadecimal.specs.Hexadecimal.{hex}
use Rattle.base64_text.specs.Base64.{base64}
use Rattle.hexadecimal.proofs.Hex.{length_hex}
use Rattle.base64_text.proofs.Base64.{length_base64}
use Rattle.plan.specs.declared.Plan.{Plan}
use Rattle.plan.specs.declared.Plan.TheVariants.{Nothing, Payload, Number, Boolean, HexDigits, Base64Letters}
use Rattle.plan.specs.Plans.{units_by, NumberFits, PayloadFits}
use Rattle.units.specs.Units.{Stands, Loaded}

-- ---- load

-- a plan whose text is not a number's and not a truth value's needs nothing of the small buffer
pub loads_other : (plan : Plan) (small : List ℕ) → ((minus : Bool) (size : Chunks) (scale : ℕ) → plan ≡ Number minus size scale → ⊥)
    → ((b : Bool) → plan ≡ Boolean b → ⊥) → Loaded plan small
loads_other Nothing small n b = record { stands = tt; begins = tt }
loads_other Payload small n b = record { stands = tt; begins = tt }
loads_other (Number minus size scale) small n b = absurd (n minus size scale refl)
loads_other (Boolean t) small n b = absurd (b t refl)
loads_other HexDigits small n b = record { stands = tt; begins = tt }
loads_other Base64Letters small n b = record { stands = tt; begins = tt }

pub number_on : {plan : Plan} {minus : Bool} {size : Chunks} {scale : ℕ} → plan ≡ Number minus size scale → NumberFits plan
    → NumberFits (Number minus size scale)
number_on e f = subst NumberFits e f

pub loads_number : {plan : Plan} {minus : Bool} {size : Chunks} {scale : ℕ} {small : List ℕ} → plan ≡ Number minus size scale
    → small ≡ bytes_of (numeral minus (chunks_value size) scale) → Loaded plan small
loads_number {minus = minus} {size = size} {scale = scale} {small = small} e s =
    subst (λ (q : Plan). Loaded q small) (sym e)
    (record { stands = s; begins = ap length s ∙ length_bytes_of (numeral minus (chunks_value size) scale) })

pub loads_boolean : {plan : Plan} {b : Bool} {small : List ℕ} → plan ≡ Boolean b → small ≡ bytes_of (truth b) → Loaded plan small
loads_boolean {b = b} {small = small} e s =
    subst (λ (q : Plan). Loaded q small) (sym e) (record { stands = s; begins = ap length s ∙ length_bytes_of (truth b) })

-- ---- units

module _ (p : List ℕ) {plan : Plan} where
  pub units_hex : plan ≡ HexDigits → 2 * length p ≡ length (units_by plan p)
  units_hex e = subst (λ (q : Plan). 2 * length p ≡ length (units_by q p)) (sym e) (sym (length_hex p))

  pub units_base64 : plan ≡ Base64Letters → (length p + 2) / 3 * 4 ≡ length (units_by plan p)
  units_base64 e = subst (λ (q : Plan). (length p + 2) / 3 * 4 ≡ length (units_by q p)) (sym e) (sym (length_base64 p))

  pub short_base64 : plan ≡ Base64Letters → PayloadFits plan p → length p ≤ longest
  short_base64 e = subst (λ (q : Plan). PayloadFits q p → length p ≤ longest) (sym e) (λ f. f)

-- ---- unit k

two_suc : (k : ℕ) → 2 * suc k ≡ suc (suc (2 * k))
two_suc k = omega arith

unit_payload : (p : List ℕ) (k : ℕ) → 2 * k + 1 < length p → get_or p (2 * k) 0 + 256 * get_or p (2 * k + 1) 0 ≡ get_or (units_of p) k 0
unit_payload [] k h = absurd (let q : ⊥ = omega arith in q)
unit_payload (a ∷ []) k h = absurd (let q : ⊥ = omega arith in q)
unit_payload (a ∷ b ∷ l) zero h = refl
unit_payload (a ∷ b ∷ l) (suc k) h =
    let e : 2 * suc k + 1 ≡ suc (suc (2 * k + 1)) = omega arith in
    let f : 2 * suc k ≡ suc (suc (2 * k)) = two_suc k in
    rw (e, f) (unit_payload l k (let q : 2 * k + 1 < length l = omega arith in q))

unit_bytes : (us : List ℕ) (k : ℕ) → k < length us → get_or (bytes_of us) (2 * k) 0 + 256 * get_or (bytes_of us) (2 * k + 1) 0 ≡ get_or us k 0
unit_bytes [] k h = absurd (let q : ⊥ = omega arith in q)
unit_bytes (u ∷ us) zero h = omega arith
unit_bytes (u ∷ us) (suc k) h =
    let e : 2 * suc k + 1 ≡ suc (suc (2 * k + 1)) = omega arith in
    let f : 2 * suc k ≡ suc (suc (2 * k)) = two_suc k in
    rw (e, f) (unit_bytes us k (let q : k < length us = omega arith in q))

module _ (p : List ℕ) (k : ℕ) {plan : Plan} (h : k < length (units_by plan p)) where
  -- the number of units, in the arm of the plan
  inside : {q : Plan} → plan ≡ q → k < length (units_by q p)
  inside e = subst (λ (x : Plan). k < length (units_by x p)) e h

  -- unit k of the text that the plan stands for
  pub unit_on : {q : Plan} {r : ℕ} → plan ≡ q → r ≡ get_or (units_by q p) k 0 → r ≡ get_or (units_by plan p) k 0
  unit_on {r = r} e u = subst (λ (x : Plan). r ≡ get_or (units_by x p) k 0) (sym e) u

  pub payload_inside : plan ≡ Payload → PayloadFits plan p → 2 * k + 1 < length p
  payload_inside e f =
      let a : k < length (units_of p) = inside e in
      let b : length p ≡ 2 * length (units_of p) = subst (λ (q : Plan). PayloadFits q p) e f in
      omega arith

  pub payload_unit : {r : ℕ} → plan ≡ Payload → PayloadFits plan p → r ≡ get_or p (2 * k) 0 + 256 * get_or p (2 * k + 1) 0 → r ≡ get_or (units_by plan p) k 0
  payload_unit e f u = unit_on e (u ∙ unit_payload p k (payload_inside e f))

  pub hex_inside : plan ≡ HexDigits → k < 2 * length p
  hex_inside e = let a : k < length (hex p) = inside e in let n = length_hex p in omega arith

  pub base64_inside : plan ≡ Base64Letters → k < (length p + 2) / 3 * 4
  base64_inside e = let a : k < length (base64 p) = inside e in let n = length_base64 p in omega arith

  module _ (small : List ℕ) (l : Loaded plan small) where
    number_text : {minus : Bool} {size : Chunks} {scale : ℕ} → plan ≡ Number minus size scale → small ≡ bytes_of (units_by plan p)
    number_text e = subst (λ (q : Plan). Stands q small → small ≡ bytes_of (units_by q p)) (sym e) (λ s. s) l.stands

    boolean_text : {b : Bool} → plan ≡ Boolean b → small ≡ bytes_of (units_by plan p)
    boolean_text e = subst (λ (q : Plan). Stands q small → small ≡ bytes_of (units_by q p)) (sym e) (λ s. s) l.stands

    pub small_text : ((minus : Bool) × (size : Chunks) × (scale : ℕ) × (plan ≡ Number minus size scale)) ⊎ ((b : Bool) × (plan ≡ Boolean b))
        → small ≡ bytes_of (units_by plan p)
    small_text = ⊎_elim (λ e. number_text e.3) (λ e. boolean_text e.1)

-- unit k of a text that stands in the small buffer
module _ (k : ℕ) (us : List ℕ) (h : k < length us) {text small : List ℕ} (t : text ≡ small) (f : small ≡ bytes_of us) where
  pub text_unit : {r : ℕ} → r ≡ get_or text (2 * k) 0 + 256 * get_or text (2 * k + 1) 0 → r ≡ get_or us k 0
  text_unit u = rw (t ∙ f) at u ∙ unit_bytes us k h
