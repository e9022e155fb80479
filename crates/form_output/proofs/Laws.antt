-- Laws of bytes laid into an output, for the functions that lay several parts one after the other. Assumes nothing.
use Prim.Native.Nat.{ℕ, zero, suc, ◌+◌, ◌/◌, ◌%◌, ◌≤◌, ◌<◌}
use mathlib.Core.Path.{◌≡◌, refl, ◌∙◌, ap}
use mathlib.Core.Bool.{Bool, true, false, cond}
use mathlib.Core.Logic.{inl, inr}
use mathlib.Core.List.{List, [], ◌∷◌, ◌++◌}
use native.Mathlib.Omega.{arith}
use lib.Dec.{ltb}
use lib.ListN.{length, set, length-append}
use lib.Seq.{sets, length-sets, set_out}
use Rattle.sequences.specs.Lists.{overlay}
use Rattle.sequences.proofs.Overlay.{sets_append, overlay_sets}
use Rattle.number.specs.Number.{spell_in, shortest}
use Rattle.form_output.specs.Output.{Fits, Put}

-- ---- the length of a number

pub spelled_few : (k value : ℕ) → length (spell_in k value) ≤ k
unfolding spell_in
spelled_few zero value = omega arith
spelled_few (suc k) value = go (ltb value 128) (spelled_few k (value / 128))
  where
    go : (b : Bool) → length (spell_in k (value / 128)) ≤ k → length (cond b (value ∷ []) ((128 + value % 128) ∷ spell_in k (value / 128))) ≤ suc k
    go true h = omega arith
    go false h = omega arith

pub shortest_few : (value : ℕ) → length (shortest value) ≤ 5
unfolding shortest
shortest_few value = spelled_few 5 value

-- ---- one part after another

pub put_none : {b : List ℕ} {at : ℕ} → Put b b at at []
put_none = record { past = omega arith; laid = refl }

pub put_byte : {b e : List ℕ} {at x : ℕ} → e ≡ set b at x → Put b e at (at + 1) (x ∷ [])
put_byte h = record { past = omega arith; laid = h }

pub put_then : {b m e : List ℕ} {at p r : ℕ} {a c : List ℕ} → Put b m at p a → Put m e p r c → Put b e at r (a ++ c)
put_then {b} {m} {e} {at} {p} {r} {a} {c} x y =
    record {
      past = rw length-append (omega (arith, x.past, y.past));
      laid = y.laid ∙ rw (x.laid, x.past) (sets_append a c b at);
    }

pub put_length : {b e : List ℕ} {at r : ℕ} {w : List ℕ} → Put b e at r w → length e ≡ length b
put_length {b} {e} {at} {r} {w} x = ap length x.laid ∙ length-sets b at w

-- ---- room

pub fits_first : {room at : ℕ} (a c : List ℕ) → Fits room at (length (a ++ c)) → Fits room at (length a)
fits_first a c (inl h) = inl h
fits_first a c (inr h) = let e = length-append a c in inr (omega arith)

-- room for what follows some bytes, where it is that of the output with them in it
pub fits_after : {b m : List ℕ} {at p : ℕ} {a : List ℕ} (size : ℕ) → Put b m at p a → Fits (length b) at (length a + size) → Fits (length m) p size
fits_after size x (inl h) = let l = put_length x in let e = x.past in inl (omega arith)
fits_after size x (inr h) = let l = put_length x in let e = x.past in inr (omega arith)

pub fits_next : {b m : List ℕ} {at p : ℕ} {a : List ℕ} (c : List ℕ) → Put b m at p a → Fits (length b) at (length (a ++ c)) → Fits (length m) p (length c)
fits_next c x f = fits_after (length c) x (rw length-append at f)

-- an output that reaches past the place has room for all
pub room_for : {room at : ℕ} (size : ℕ) → Fits room at size → at < room → at + size ≤ room
room_for size (inl h) l = omega arith
room_for size (inr h) l = h

-- ---- the whole output

-- bytes past the end change nothing
pub put_out : (l w : List ℕ) (at : ℕ) → length l ≤ at → sets l at w ≡ l
put_out l [] at h = refl
put_out l (x ∷ w) at h = rw (set_out l at x h) (put_out l w (suc at) (omega arith))

-- bytes from the start on
pub put_whole : (w l : List ℕ) → length w ≤ length l → sets l 0 w ≡ overlay w l
put_whole w l h = overlay_sets w [] l 0 refl (omega arith)
