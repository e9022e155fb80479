-- Laws of a list laid over the front of a table, and of a stack at the front of an array. Assumes nothing.
use Prim.Native.Nat.{ℕ, suc, ◌+◌, ◌≤◌, ◌<◌}
use mathlib.Core.Path.{◌≡◌, sym, ◌∙◌, ap}
use mathlib.Core.List.{List, [], ◌∷◌, ◌++◌, append_assoc, append-nil}
use native.Mathlib.Numerals.{add-one}
use native.Mathlib.Omega.{arith}
use lib.ListN.{length, get_or, take, set, length-append, length-drop, length-take}
use lib.Seq.{drop-cons, set-append_seam, take-suc-set, take-take, get_or-take, length-take-le, sets}
use Rattle.sequences.specs.Lists.{overlay, part}
use Rattle.sequences.specs.Arrays.{Front}

-- one element more
pub overlay_put : (front l : List ℕ) (a n : ℕ) → n ≡ length front → n < length l
    → set (overlay front l) n a ≡ overlay (front ++ (a ∷ [])) l
overlay_put front l a n e h =
    let k : length front < length l = omega arith in
    rw (e, drop-cons l (length front) 0, set-append_seam, length-append, add-one, append_assoc)

-- a run of elements more
pub overlay_sets : (more front l : List ℕ) (n : ℕ) → n ≡ length front → n + length more ≤ length l
    → sets (overlay front l) n more ≡ overlay (front ++ more) l
overlay_sets [] front l n e h = rw append-nil
overlay_sets (v ∷ more) front l n e h =
    let k : n < length l = omega arith in
    let z : suc n ≡ length (front ++ (v ∷ [])) = simp length-append (omega arith) in
    ap (λ (x : List ℕ). sets x (suc n) more) (overlay_put front l v n e k)
    ∙ overlay_sets more (front ++ (v ∷ [])) l (suc n) z (omega arith)
    ∙ ap (λ (x : List ℕ). overlay x l) (append_assoc front (v ∷ []) more)

pub length_overlay : (front l : List ℕ) → length front ≤ length l → length (overlay front l) ≡ length l
length_overlay front l h = simp (length-append, length-drop) (omega arith)

-- stores one after the other are one store of a run
pub sets_append : (a b l : List ℕ) (n : ℕ) → sets (sets l n a) (n + length a) b ≡ sets l n (a ++ b)
sets_append [] b l n = let e : n + 0 ≡ n = omega arith in rw e
sets_append (x ∷ a) b l n =
    let e : n + suc (length a) ≡ suc n + length a = omega arith in
    rw e (sets_append a b (set l n x) (suc n))

pub front_push : (stack l : List ℕ) (a : ℕ) → length stack < length l → Front stack l → Front (stack ++ (a ∷ [])) (set l (length stack) a)
front_push stack l a h e = rw (length-append, add-one, take-suc-set, e)

-- cut back to its first `n`
pub front_take : (stack l : List ℕ) (n : ℕ) → n ≤ length stack → Front stack l → Front (take n stack) l
front_take stack l n h e =
    let z : length (take n stack) ≡ n = length-take-le n stack h in
    rw z (sym (take-take n (length stack) l h) ∙ ap (λ (x : List ℕ). take n x) e)

pub front_at : (stack l : List ℕ) (k : ℕ) → k < length stack → Front stack l → get_or l k 0 ≡ get_or stack k 0
front_at stack l k h e = sym (get_or-take (length stack) l k 0 h) ∙ ap (λ (x : List ℕ). get_or x k 0) e

pub part_length : (l : List ℕ) (place size : ℕ) → place + size ≤ length l → length (part l place size) ≡ size
part_length l place size h = simp (length-take, length-drop) (omega arith)
