-- Multi-byte numbers (004, section 2.3.2; 01, "Document rules"): what a spelling means, what stands at a place, and the
-- shortest spelling of a value.
use Rattle.std.specs.Prelude.{ℕ, zero, suc, ◌+◌, ◌*◌, ◌/◌, ◌%◌, ◌≤◌, ◌<◌, cond, List, [], ◌∷◌, ltb, leb, length, drop, Result, Ok, Err}
use Rattle.token.specs.Tokens.{largest, mb32}
use Rattle.token.specs.declared.Fault.TheVariants.{Missing, BadNumber}
use Rattle.token.specs.declared.Refusal.{Refusal}
use Rattle.token.specs.Faults.{refusal}
use Rattle.number.specs.declared.Number.{Number}

-- mb32 = *4highbyte lowbyte, mb64 = *9highbyte lowbyte: a spelling of at most so many bytes
pub data Spelling : ℕ → List ℕ → Type 0 where
  low : {most b : ℕ} → b < 128 → Spelling (suc most) (b ∷ [])
  high : {most b : ℕ} {s : List ℕ} → 128 ≤ b → b < 256 → Spelling most s → Spelling (suc most) (b ∷ s)

-- the value of a spelling: seven bits a byte, the least significant first
abbrev pub value_of : List ℕ → ℕ
value_of [] = 0
value_of (b ∷ s) = b % 128 + 128 * value_of s

-- what stands at the front of some bytes
pub data NumberFront : Type 0 where
  -- a spelling: its value, and how many bytes it has
  spelled : ℕ → ℕ → NumberFront
  -- as many bytes as are allowed, and none below 80 hex
  unended : NumberFront
  -- no byte below 80 hex, and fewer bytes than are allowed
  cut : NumberFront

abbrev pub after : ℕ → NumberFront → NumberFront
after b (spelled value size) = spelled (b % 128 + 128 * value) (suc size)
after b unended = unended
after b cut = cut

-- of at most so many bytes
unfoldable pub front : ℕ → List ℕ → NumberFront
front zero l = unended
front (suc most) [] = cut
front (suc most) (b ∷ l) = cond (ltb b 128) (spelled b 1) (after b (front most l))

-- a number: its value, and the place after it
abbrev pub number : ℕ → ℕ → Number
number value next = record { value = value; next = next }

-- 01: a value over 2,147,483,647 is judged when the number has ended; the place of 4 is the number's first byte
abbrev pub number_judged : List ℕ → ℕ → NumberFront → Result Number Refusal
number_judged doc at (spelled value size) = cond (leb value largest) (Ok (number value (at + size))) (Err (refusal BadNumber at))
number_judged doc at unended = Err (refusal BadNumber at)
number_judged doc at cut = Err (refusal Missing (length doc))

-- the number of at most `most` bytes at a place of a document: its value and the place after it, or the refusal
unfoldable pub number_at : ℕ → List ℕ → ℕ → Result Number Refusal
number_at most doc at = number_judged doc at (front most (drop at doc))

-- the shortest spelling of a value up to 2,147,483,647, in at most five bytes
unfoldable pub spell_in : ℕ → ℕ → List ℕ
spell_in zero value = []
spell_in (suc most) value = cond (ltb value 128) (value ∷ []) ((128 + value % 128) ∷ spell_in most (value / 128))

unfoldable pub shortest : ℕ → List ℕ
shortest value = spell_in mb32 value

-- 004, section 2.3.2, the table of ranges: how many bytes store a value
unfoldable pub size_of : ℕ → ℕ
size_of value =
    cond (ltb value 0x80) 1 (cond (ltb value 0x4000) 2 (cond (ltb value 0x200000) 3 (cond (ltb value 0x10000000) 4 5)))
