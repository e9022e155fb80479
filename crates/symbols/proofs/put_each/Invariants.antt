-- `symbols::put_each` meets its contract: the first k of the numbers are stored. Assumes nothing.
use Prim.Native.Nat.{ℕ, ◌+◌}
use mathlib.Core.List.{List}
use mathlib.Core.Path.{◌≡◌}
use lib.ListN.{take}
use Rattle.symbols.specs.Store.{Gives, PutHashed}
use Rattle.symbols.proofs.put_each.Given as goal

abbrev pub invariant-loop-k : goal.invariant-loop-k
invariant-loop-k g l =
    (l.next.at ≡ l.initial.next.at + l.k)
    × ((numbers : List ℕ) → Gives (goal.F-post g l.fn.number) l.fn.count numbers → PutHashed l.initial.syms l.initial.next (take l.k numbers) l.syms l.next)
