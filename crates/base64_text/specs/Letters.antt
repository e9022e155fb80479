-- Serves the code. The letters of Base64 as a table that is lent.
use Rattle.std.specs.Prelude.{ℕ, ◌<◌, ◌≡◌, List, get_or}
use Rattle.base64_text.specs.Base64.{letter}

-- a table of the alphabet: the letter of each number below 64 (RFC 3548, section 3, table 1)
unfoldable pub Alphabet : List ℕ → Type 0
Alphabet t = (k : ℕ) → k < 64 → get_or t k 0 ≡ letter k
