-- The loop that lays a number, a copy of bytes, and the ways out of the functions. Assumes nothing.
use Prim.Native.Nat.{ℕ, zero, suc, ◌+◌, ◌-◌, ◌*◌, ◌/◌, ◌%◌, ◌≤◌, ◌<◌}
use mathlib.Core.Path.{◌≡◌, refl, sym, ◌∙◌}
use mathlib.Core.List.{List, [], ◌∷◌}
use native.Mathlib.Omega.{arith}
use native.Mathlib.Numerals.{add-one}
use lib.ListN.{length, set, length-set, take, drop}
use lib.Seq.{sets, sets-eq, take_all}
use borrow.Rule.Slice.PartMut.{put_mid}
use Rattle.std.proofs.lemmas.Slice.{put_mid-paste}
use Rattle.sequences.specs.Lists.{part}
use Rattle.sequences.proofs.Overlay.{part_length}
use Rattle.sequences.proofs.Tests.{tests}
use Rattle.number.specs.Number.{spell_in, shortest}
use Rattle.form_output.specs.Output.{Put}
use Rattle.form_output.proofs.Laws.{put_out}

-- ---- a number

spell_more : (k n : ℕ) → 128 ≤ n → spell_in (suc k) n ≡ (128 + n % 128) ∷ spell_in k (n / 128)
unfolding spell_in
spell_more k n h = simp (tests, h)

spell_last : (k n : ℕ) → n < 128 → spell_in (suc k) n ≡ n ∷ []
unfolding spell_in
spell_last k n h = simp (tests, h)

-- numbers below this have at most suc k bytes
unfoldable pub bound : ℕ → ℕ
bound zero = 128
bound (suc k) = 128 * bound k

-- what is left to lay: at most suc k bytes, which complete the spelling
pub record Left (out₀ : List ℕ) (at value : ℕ) (out : List ℕ) (p left : ℕ) : Type 0 where
  pub k : ℕ
  pub long : length out ≡ length out₀
  pub few : left < bound k
  pub count : p + k ≤ at + 4
  pub size : p + length (spell_in (suc k) left) ≡ at + length (shortest value)
  pub same : sets out p (spell_in (suc k) left) ≡ sets out₀ at (shortest value)

pub left_start : (out : List ℕ) (at value : ℕ) → value ≤ 2147483647 → Left out at value out at value
unfolding shortest bound
left_start out at value h = record { k = 4; long = refl; few = omega arith; count = omega arith; size = refl; same = refl }

pub left_next : {out₀ out out₁ : List ℕ} {at value p left : ℕ} → Left out₀ at value out p left → 128 ≤ left → out₁ ≡ set out p (128 + left % 128)
    → Left out₀ at value out₁ (p + 1) (left / 128)
unfolding bound
left_next {out₀} {out} {out₁} {at} {value} {p} {left} l h e = go l.k l.few l.count l.size l.same
  where
    go : (k : ℕ) → left < bound k → p + k ≤ at + 4 → p + length (spell_in (suc k) left) ≡ at + length (shortest value)
        → sets out p (spell_in (suc k) left) ≡ sets out₀ at (shortest value) → Left out₀ at value out₁ (p + 1) (left / 128)
    go zero f c s i = absurd (omega arith)
    go (suc k) f c s i =
        let s₁ = rw (spell_more (suc k) left h) at s in
        let i₁ = rw (spell_more (suc k) left h) at i in
        record { k = k; long = rw (e, length-set) l.long; few = omega arith; count = omega arith; size = omega (arith, s₁); same = rw (e, add-one) i₁ }

pub left_low : {out₀ out : List ℕ} {at value p left : ℕ} → Left out₀ at value out p left → p ≤ at + 4
left_low l = omega (arith, l.count)

pub left_end : {out₀ out out₁ : List ℕ} {at value p left : ℕ} → Left out₀ at value out p left → left < 128 → out₁ ≡ set out p left
    → Put out₀ out₁ at (p + 1) (shortest value)
left_end {left = left} l h e =
    let s = rw (spell_last l.k left h) at l.size in
    let i = rw (spell_last l.k left h) at l.same in
    record { past = s; laid = e ∙ i }

-- ---- a copy

-- a copy into a part of the output lays the bytes there
pub part_copied : (doc b now : List ℕ) (at place size : ℕ) → place + size ≤ length doc → at + size ≤ length b → now ≡ take ((place + size) - place) (drop place doc)
    → put_mid at ((at + size) - at) b now ≡ sets b at (part doc place size)
part_copied doc b now at place size h f i =
    let l = part_length doc place size h in
    let s : (place + size) - place ≡ size = omega arith in
    let k : (at + size) - at ≡ size = omega arith in
    let n : now ≡ part doc place size = rw s at i in
    let t : take size (part doc place size) ≡ part doc place size = take_all size (part doc place size) (omega arith) in
    put_mid-paste at ((at + size) - at) b now (part doc place size) size n (omega arith) (omega arith)
    ∙ rw t (sym (rw l at (sets-eq (part doc place size) b at (omega arith))))

-- ---- ways out

-- bytes copied, where the output reaches past the place
pub part_laid : (doc b e : List ℕ) (at place size : ℕ) → place + size ≤ length doc → e ≡ sets b at (part doc place size) → Put b e at (at + size) (part doc place size)
part_laid doc b e at place size h i = let l = part_length doc place size h in record { past = omega arith; laid = i }

-- bytes only measured
pub part_measured : (doc b : List ℕ) (at place size : ℕ) → place + size ≤ length doc → length b ≤ at → Put b b at (at + size) (part doc place size)
part_measured doc b at place size h o = part_laid doc b b at place size h (sym (put_out b (part doc place size) at o))
