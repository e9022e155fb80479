-- `cases::load_all` stays inside the text: each turn reads a file behind what is there.
use Rattle.std.proofs.Common.{◌≡◌, ◌≤◌, length}
use Rattle.cases.proofs.load_all.Given as goal

abbrev pub invariant-loop-i : goal.invariant-loop-i
invariant-loop-i g l = (l.size ≤ length l.text) × (length l.text ≡ length l.initial.text)
