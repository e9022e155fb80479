-- Serves the code. What the code says of one byte of a header, for the private function.
use Rattle.std.specs.Prelude.{ℕ, cond, ◌&&◌, List, leb, ltb, length, get_or, Result, Ok, Err}
use Rattle.token.specs.Faults.{refusal}
use Rattle.token.specs.declared.Fault.TheVariants.{Missing, BadHeader}
use Rattle.token.specs.declared.Refusal.{Refusal}

-- the byte at a place lies from `first` to `last`; else the refusal
unfoldable pub byte_judged : List ℕ → ℕ → ℕ → ℕ → Result Unit Refusal
byte_judged doc at first last =
    cond (ltb at (length doc)) (cond (leb first (get_or doc at 0) && leb (get_or doc at 0) last) (Ok tt) (Err (refusal BadHeader at))) (Err (refusal Missing (length doc)))
