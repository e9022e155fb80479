-- A number in chunks is zero where all its chunks are. Assumes nothing.
use mathlib.Core.Path.{◌∙◌}
use mathlib.Core.Logic.{⊎_elim}
use borrow.Author.Tests.{ne_eqb}
use Rattle.chunks.proofs.Chunked.{some_mid, some_low}
use Rattle.numeral.proofs.ChunksDecimal.is_zero.Goals.{then-self-eq0, else-self-eq0}
use Rattle.numeral.proofs.ChunksDecimal.is_zero.Goals as goal

pub returns-else-self-eq0-2 : goal.returns-else-self-eq0-2
returns-else-self-eq0-2 c =
    elim c.if-self-eq0.branch [
      | then-self-eq0 w ↦
          w.t-3-is
          ∙ ⊎_elim (λ m. ne_eqb _ _ m.1 ∙ some_mid c.args.self m.1) (λ l. absurd (l w.if-self-eq0.true)) c.if-self-eq0-2.either
      | else-self-eq0 w ↦ w.t-3-is ∙ ne_eqb _ _ w.if-self-eq0.false ∙ some_low c.args.self w.if-self-eq0.false
    ]
