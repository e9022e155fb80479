-- Text put before a place of an array, and the parts of the lines that the programs print (01, "Extracts worked by hand": `refused C
-- at N`).
use Rattle.std.specs.Prelude.{ℕ, ◌+◌, ◌≡◌, List, [], ◌∷◌, ◌++◌, length, take, drop}
use Rattle.numeral.specs.Numeral.{digits}

-- the bytes stand from place `at` up to place `end`, and all that stands after and before them is as it was
pub record PutBefore (before after : List ℕ) (end at : ℕ) (bytes : List ℕ) : Type 0 where
  pub there : drop at after ≡ bytes ++ drop end before
  pub front : take at after ≡ take at before
  pub place : at + length bytes ≡ end
  pub long : length after ≡ length before

-- a word and then a number
abbrev pub field : List ℕ → ℕ → List ℕ
field word n = word ++ digits n

-- two numbers with a word before each, and a line feed
abbrev pub line : List ℕ → ℕ → List ℕ → ℕ → List ℕ
line first a second b = field first a ++ (field second b ++ (0x0A ∷ []))

-- "accepted ", "refused ", " at ": what the programs say of an answer
abbrev pub accepted_word : List ℕ
accepted_word = 0x61 ∷ 0x63 ∷ 0x63 ∷ 0x65 ∷ 0x70 ∷ 0x74 ∷ 0x65 ∷ 0x64 ∷ 0x20 ∷ []

abbrev pub refused_word : List ℕ
refused_word = 0x72 ∷ 0x65 ∷ 0x66 ∷ 0x75 ∷ 0x73 ∷ 0x65 ∷ 0x64 ∷ 0x20 ∷ []

abbrev pub at_word : List ℕ
at_word = 0x20 ∷ 0x61 ∷ 0x74 ∷ 0x20 ∷ []
