-- Reading as a whole: 1 is tested first, then the outer header, then the machine runs. Assumes nothing.
use Prim.Native.Nat.{ℕ, ◌≤◌, ◌<◌}
use mathlib.Core.Path.{◌≡◌, sym, ◌∙◌, ap}
use mathlib.Core.List.{List}
use lib.ListN.{length}
use Rattle.sequences.proofs.Tests.{tests}
use Rattle.std.specs.Prelude.{Result}
use Rattle.token.specs.Tokens.{too_long, longest}
use Rattle.token.specs.declared.Refusal.{Refusal}
use Rattle.fields.specs.Fields.{header_at}
use Rattle.fields.specs.declared.Header.{Header}
use Rattle.scan.specs.declared.Room.{Room}
use Rattle.machine.specs.Machine.{result, blank, begun, reading}

module _ (doc : List ℕ) (room : Room) where
  pub too_long_fact : longest < length doc → result too_long longest 0 blank ≡ reading doc room
  unfolding reading
  too_long_fact h = simp (tests, h)

  module _ (short : length doc ≤ longest) {r h : Result Header Refusal} (e : r ≡ header_at doc 0) (g : r ≡ h) where
    pub header_on : begun doc room h ≡ reading doc room
    unfolding reading
    header_on = ap (begun doc room) (sym g ∙ e) ∙ simp (tests, short)
