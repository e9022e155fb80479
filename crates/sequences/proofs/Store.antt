-- Laws of texts that are stored as UTF-16LE, unit after unit, from the front of a buffer. Assumes nothing.
use Prim.Native.Nat.{ℕ, suc, ◌+◌, ◌*◌, ◌/◌, ◌%◌, ◌≤◌, ◌<◌}
use mathlib.Core.Path.{◌≡◌, refl, ◌∙◌, ap}
use mathlib.Core.List.{List, [], ◌∷◌, ◌++◌}
use native.Mathlib.Omega.{arith}
use lib.ListN.{length, set}
use lib.Seq.{sets}
use Rattle.sequences.specs.Lists.{overlay, bytes_of}
use Rattle.sequences.proofs.Units.{length_bytes_of, bytes_of_append}
use Rattle.sequences.proofs.Overlay.{overlay_sets, sets_append}

-- the bytes of an ASCII character: itself, then 0
ascii : (u : ℕ) (us bs : List ℕ) → u < 256 → bs ≡ bytes_of us → u ∷ 0 ∷ bs ≡ bytes_of (u ∷ us)
ascii u us bs h e =
    let lo : u % 256 ≡ u = omega arith in
    let hi : u / 256 ≡ 0 = omega arith in
    rw (e, lo, hi)

-- four stores of bytes are one store of two characters
pub stores_two : (l : List ℕ) (at w x : ℕ) → w < 256 → x < 256
    → set (set (set (set l at w) (at + 1) 0) (at + 2) x) (at + 3) 0 ≡ sets l at (bytes_of (w ∷ x ∷ []))
stores_two l at w x a b =
    let e1 : at + 1 ≡ suc at = omega arith in
    let e2 : at + 2 ≡ suc (suc at) = omega arith in
    let e3 : at + 3 ≡ suc (suc (suc at)) = omega arith in
    rw (e1, e2, e3) (ap (sets l at) (ascii w (x ∷ []) _ a (ascii x [] _ b refl)))

-- eight stores of bytes are one store of four characters
pub stores_four : (l : List ℕ) (at w x y z : ℕ) → w < 256 → x < 256 → y < 256 → z < 256
    → set (set (set (set (set (set (set (set l at w) (at + 1) 0) (at + 2) x) (at + 3) 0) (at + 4) y) (at + 5) 0) (at + 6) z) (at + 7) 0
    ≡ sets l at (bytes_of (w ∷ x ∷ y ∷ z ∷ []))
stores_four l at w x y z a b c d =
    let e1 : at + 1 ≡ suc at = omega arith in
    let e2 : at + 2 ≡ suc (suc at) = omega arith in
    let e3 : at + 3 ≡ suc (suc (suc at)) = omega arith in
    let e4 : at + 4 ≡ suc (suc (suc (suc at))) = omega arith in
    let e5 : at + 5 ≡ suc (suc (suc (suc (suc at)))) = omega arith in
    let e6 : at + 6 ≡ suc (suc (suc (suc (suc (suc at))))) = omega arith in
    let e7 : at + 7 ≡ suc (suc (suc (suc (suc (suc (suc at)))))) = omega arith in
    rw (e1, e2, e3, e4, e5, e6, e7)
    (ap (sets l at) (ascii w (x ∷ y ∷ z ∷ []) _ a (ascii x (y ∷ z ∷ []) _ b (ascii y (z ∷ []) _ c (ascii z [] _ d refl)))))

-- what is stored is the text that it equals
pub text_is : (l : List ℕ) (at : ℕ) {us vs after : List ℕ} → after ≡ sets l at (bytes_of us) → us ≡ vs → after ≡ sets l at (bytes_of vs)
text_is l at e f = e ∙ ap (λ (x : List ℕ). sets l at (bytes_of x)) f

-- a text stored behind a text that stands at the front: both stand there
pub text_next : (us vs l : List ℕ) (at : ℕ) → at ≡ 2 * length us
    → sets (sets l 0 (bytes_of us)) at (bytes_of vs) ≡ sets l 0 (bytes_of (us ++ vs))
text_next us vs l at e =
    let z : at ≡ 0 + length (bytes_of us) = let n = length_bytes_of us in omega arith in
    rw (z, bytes_of_append us vs) (sets_append (bytes_of us) (bytes_of vs) l 0)

-- a text stored at the front is laid over it
pub text_front : (us l : List ℕ) → 2 * length us ≤ length l → sets l 0 (bytes_of us) ≡ overlay (bytes_of us) l
text_front us l h =
    let k : 0 + length (bytes_of us) ≤ length l = let n = length_bytes_of us in omega arith in
    overlay_sets (bytes_of us) [] l 0 refl k
