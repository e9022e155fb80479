-- A value without text: its mark, then its bytes' marks. Assumes nothing.
use Prim.Native.Nat.{ℕ, ◌+◌, ◌*◌}
use mathlib.Core.Path.{◌≡◌}
use mathlib.Core.List.{List, ◌∷◌, map}
use native.Mathlib.Omega.{arith}
use Rattle.meaning.specs.Codes.{mark}

-- the mark of a value without text, and those of its bytes
pub value_put : (token v : ℕ) (p : List ℕ) → v ≡ token → (65541 + 8 * v) ∷ map (mark 6) p ≡ mark 5 token ∷ map (mark 6) p
unfolding mark
value_put token v p e = let f : 65541 + 8 * v ≡ 65536 + 8 * token + 5 = omega (arith, e) in rw f
