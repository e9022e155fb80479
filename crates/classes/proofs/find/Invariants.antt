-- `classes::find` meets its contract. The invariant: row `j` stands at place `p`, and `Way`: the value of row `r` is met from there on, if
-- an earlier row has it.
use Prim.Native.Nat.{ℕ, ◌+◌, ◌-◌, ◌*◌, ◌<◌}
use mathlib.Core.Path.{◌≡◌}
use mathlib.Core.List.{List}
use lib.ListN.{get_or}
use Rattle.classes.specs.Tree.{Tree, TellsRow}
use Rattle.classes.proofs.Trees.{Way}
use Rattle.classes.proofs.find.Given as goal

abbrev pub invariant-loop-j : goal.invariant-loop-j
invariant-loop-j g l =
    (l.j ≡ get_or l.tree l.p 0) × (l.p < 2039 + 2 * l.r)
    × ((hash : List ℕ → ℕ) (m : ℕ → List ℕ) → Tree hash m l.r l.tree → l.h ≡ hash (m l.r) → TellsRow (goal.F-post g l.same) m l.r
    → Way hash m l.r l.tree l.bits l.p l.j)

abbrev pub decreases-loop-j : goal.decreases-loop-j
decreases-loop-j g l = 1024 - l.j
