-- Texts and payloads, a step at a time. Assumes nothing.
use Prim.Native.Nat.{ℕ, zero, suc, ◌+◌, ◌-◌, ◌*◌, ◌/◌, ◌%◌, ◌≤◌, ◌<◌}
use mathlib.Core.Path.{◌≡◌, refl, ap, ◌∙◌}
use mathlib.Core.Bool.{Bool}
use mathlib.Core.Logic.{◌⊎◌, inl, inr}
use Rattle.chunks.specs.declared.Chunks.{Chunks}
use mathlib.Core.List.{List, [], ◌∷◌, map}
use native.Mathlib.Omega.{arith}
use lib.ListN.{length, get_or, take, drop, length-drop}
use lib.Seq.{take_all}
use Rattle.sequences.proofs.Units.{units_long}
use Rattle.sequences.specs.Lists.{bytes_of, units_of}
use Rattle.numeral.specs.Numeral.{numeral, truth}
use Rattle.chunks.specs.Chunks.{chunks_value}
use Rattle.plan.specs.Plans.{units_by}
use Rattle.units.specs.Units.{Stands, Loaded}
use Rattle.plan.specs.declared.Plan.{Plan}
use Rattle.plan.specs.declared.Plan.TheVariants.{Nothing, Payload, Number, Boolean, HexDigits, Base64Letters}
use Rattle.meaning.specs.Codes.{mark}
use Rattle.symbols.specs.Values.{MadeSmall, MadeOfBlob}

-- ---- units

-- the units of a text's bytes
units_bytes : (us : List ℕ) → units_of (bytes_of us) ≡ us
units_bytes [] = refl
units_bytes (u ∷ us) = let e : u % 256 + 256 * (u / 256) ≡ u = omega arith in rw (e, units_bytes us)

pub unit_get : (s : List ℕ) (k x : ℕ) → k < length s / 2 → x ≡ get_or s (2 * k) 0 + 256 * get_or s (2 * k + 1) 0 → x ≡ get_or (units_of s) k 0
unit_get [] k x h e = absurd (let q : ⊥ = omega arith in q)
unit_get (a ∷ []) k x h e = absurd (let q : ⊥ = omega arith in q)
unit_get (a ∷ b ∷ s) zero x h e = e
unit_get (a ∷ b ∷ s) (suc k) x h e =
    let f : 2 * suc k ≡ suc (suc (2 * k)) = omega arith in
    let g : 2 * suc k + 1 ≡ suc (suc (2 * k + 1)) = omega arith in
    unit_get s k x (omega arith) (e ∙ rw (g, f))

pub units_half : (l : List ℕ) → length l / 2 ≡ length (units_of l)
units_half l = let u = units_long l in omega (arith, u.0, u.1)

-- ---- marks of bytes

pub byte_get : (s : List ℕ) (k x : ℕ) → k < length s → x ≡ 65542 + 8 * get_or s k 0 → x ≡ get_or (map (mark 6) s) k 0
unfolding mark
byte_get [] k x h e = absurd (let q : ⊥ = omega arith in q)
byte_get (b ∷ s) zero x h e = omega (arith, e)
byte_get (b ∷ s) (suc k) x h e = byte_get s k x (omega arith) e

-- ---- the text of a value

-- the text that stands in a small buffer
pub small_part : {plan : Plan} {text small : List ℕ} (p : List ℕ) → text ≡ small → Loaded plan small → MadeSmall plan → units_of text ≡ units_by plan p
small_part {plan} {text} {small} p t l e = ap units_of t ∙ go plan e l.stands
  where
    go : (q : Plan) → MadeSmall q → Stands q small → units_of small ≡ units_by q p
    go Nothing f s = absurd f
    go Payload f s = absurd f
    go (Number minus size scale) f s = ap units_of s ∙ units_bytes (numeral minus (chunks_value size) scale)
    go (Boolean b) f s = ap units_of s ∙ units_bytes (truth b)
    go HexDigits f s = absurd f
    go Base64Letters f s = absurd f

-- a blob's text needs nothing of the small buffer
pub blob_loaded : (plan : Plan) (small : List ℕ) → MadeOfBlob plan → Loaded plan small
blob_loaded Nothing small f = absurd f
blob_loaded Payload small f = absurd f
blob_loaded (Number minus size scale) small f = absurd f
blob_loaded (Boolean b) small f = absurd f
blob_loaded HexDigits small f = record { stands = tt; begins = tt }
blob_loaded Base64Letters small f = record { stands = tt; begins = tt }

-- the plans of each kind
pub small_of : {plan : Plan} → ((minus : Bool) × (size : Chunks) × (scale : ℕ) × (plan ≡ Number minus size scale)) ⊎ ((b : Bool) × (plan ≡ Boolean b)) → MadeSmall plan
small_of (inl (minus, size, scale, e)) = rw e tt
small_of (inr (b, e)) = rw e tt

pub blob_of : {plan : Plan} → (plan ≡ HexDigits) ⊎ (plan ≡ Base64Letters) → MadeOfBlob plan
blob_of (inl e) = rw e tt
blob_of (inr e) = rw e tt
