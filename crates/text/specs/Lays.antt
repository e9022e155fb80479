-- Serves the code. A text laid into a lent buffer: what the functions of this crate hand to each other.
use Rattle.std.specs.Prelude.{ℕ, ◌≡◌, List, length}
use Rattle.sequences.specs.Lists.{bytes_of}
use Rattle.text.specs.declared.Shown.{Shown}
use Rattle.text.specs.Shows.{laid, laid_in}

-- a text laid into a buffer, or refused
pub record Lays (units before after : List ℕ) (r : Shown) : Type 0 where
  pub answer : r ≡ laid (bytes_of units) (length before)
  pub holds : after ≡ laid_in (bytes_of units) before

-- the same for the text that stands in the small buffer
pub record LaysEnd (small before after : List ℕ) (r : Shown) : Type 0 where
  pub each : (units : List ℕ) → small ≡ bytes_of units → Lays units before after r
