-- How a lent table, buffer or array relates to a list, and the bytes of UTF-16LE text. Cited by the contracts of several crates.
use Rattle.std.specs.Prelude.{ℕ, ◌+◌, ◌*◌, ◌/◌, ◌%◌, ◌<◌, Bool, true, false, ◌&&◌, List, [], ◌∷◌, ◌++◌, eqb, length, get_or, take, drop}

-- `front` laid over the front of a table or buffer; what stands past it stays
abbrev pub overlay : {A : Type 0} → List A → List A → List A
overlay front l = front ++ drop (length front) l

-- the `size` elements from `place` on
abbrev pub part : {A : Type 0} → List A → ℕ → ℕ → List A
part l place size = take size (drop place l)

-- two lists are the same, element by element
abbrev pub same : List ℕ → List ℕ → Bool
same [] [] = true
same [] (y ∷ t) = false
same (x ∷ s) [] = false
same (x ∷ s) (y ∷ t) = eqb x y && same s t

-- a list of bytes, as a slice of bytes holds one
pub record Bytes (l : List ℕ) : Type 0 where
  pub each : (k : ℕ) → get_or l k 0 < 256

-- the unsigned number of some bytes, the least significant first (004, 1.1: little-endian)
abbrev pub little : List ℕ → ℕ
little [] = 0
little (b ∷ l) = b + 256 * little l

-- the bytes of 16-bit units, the low byte of each first (004, 1.1: UTF-16LE)
abbrev pub bytes_of : List ℕ → List ℕ
bytes_of [] = []
bytes_of (u ∷ us) = u % 256 ∷ u / 256 ∷ bytes_of us

-- the 16-bit units of some bytes; an odd byte at the end is none
abbrev pub units_of : List ℕ → List ℕ
units_of [] = []
units_of (a ∷ []) = []
units_of (a ∷ b ∷ l) = (a + 256 * b) ∷ units_of l

-- `x` stands in a list
pub data In {A : Type 0} (x : A) : List A → Type 0 where
  here : {l : List A} → In x (x ∷ l)
  there : {y : A} {l : List A} → In x l → In x (y ∷ l)
