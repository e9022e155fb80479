-- `hexadecimal::hex_unit` meets its contract. The high or the low half of the byte of unit `k`. Assumes nothing.
use Rattle.std.proofs.Common.{ap}
use Rattle.hexadecimal.specs.Hexadecimal.{hex_digit}
use Rattle.hexadecimal.proofs.Hex.{hex_even, hex_odd}
use mathlib.Core.Path.{◌∙◌}
use Rattle.hexadecimal.proofs.hex_unit.Goals.{then-k-eq0, else-k-eq0}
use Rattle.hexadecimal.proofs.hex_unit.Goals as goal

pub returns : goal.returns
returns c =
    elim c.if-k-eq0.branch [
      | then-k-eq0 w ↦ c.from.ensures ∙ c.hex_digit.ensures ∙ ap hex_digit w.d-is ∙ hex_even _ _ c.requires w.if-k-eq0.true
      | else-k-eq0 w ↦ c.from.ensures ∙ c.hex_digit.ensures ∙ ap hex_digit w.d-is ∙ hex_odd _ _ c.requires w.if-k-eq0.false
    ]
