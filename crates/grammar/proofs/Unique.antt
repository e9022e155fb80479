-- A document has one derivation's rows and version at most, whatever the limits: both derivations are walks of one machine
-- that counts nothing, in tables with room for both. Assumes nothing.
use Prim.Native.Nat.{ℕ, ◌+◌}
use mathlib.Core.Path.{◌≡◌, sym, ◌∙◌, ap, subst}
use mathlib.Core.List.{List, []}
use native.Mathlib.Omega.{arith}
use lib.ListN.{length}
use Rattle.scan.specs.declared.Room.{Room}
use Rattle.machine.specs.Machine.{started}
use Rattle.machine.proofs.Goes.{ended}
use Rattle.grammar.specs.Grammar.{Point, rows_at, before_header, Depth, Document, rows_in}
use Rattle.grammar.proofs.Steps.{state_of, Path}
use Rattle.grammar.proofs.Ends.{same_end, Reaches, nothing_open, some_nested, unlimited}

-- two walks of one document end alike
same_rows : (doc : List ℕ) (room : Room) {v w : ℕ} {s t : Point} → Reaches nothing_open some_nested doc room v s → Reaches nothing_open some_nested doc room w t
    → (v ≡ w) × (rows_at s ≡ rows_at t)
same_rows doc room {v} {w} {s} {t} a b =
    let e : v ≡ w = sym a.header.version_is.is ∙ b.header.version_is.is in
    let p = subst (λ (k : ℕ). Path nothing_open some_nested doc room (started k 5) (state_of s a.last 0 [])) e a.path in
    let q : state_of s a.last 0 [] ≡ state_of t b.last 0 [] = same_end nothing_open some_nested doc room p b.path ended a.stop ended b.stop in
    (e, ap rows_in q)

-- demand 2: whatever the limits, two derivations of one document have the same version and the same rows
pub at_most_one : (doc : List ℕ) {m n : Depth} {v w : ℕ} {s t : Point} → Document doc m v before_header s → s.at ≡ length doc → Document doc n w before_header t → t.at ≡ length doc
    → (v ≡ w) × (rows_at s ≡ rows_at t)
at_most_one doc {s = s} {t = t} x a y b =
    let room : Room = record {
      names = length s.names + length t.names;
      qnames = length s.qnames + length t.qnames;
      events = length s.events + length t.events;
    } in
    same_rows doc room
    (unlimited doc room x a (record { names = omega arith; qnames = omega arith; events = omega arith }))
    (unlimited doc room y b (record { names = omega arith; qnames = omega arith; events = omega arith }))
