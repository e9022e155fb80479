-- 01's H, and a case of reading.
use Rattle.std.specs.Prelude.{ℕ, List, [], ◌∷◌}

-- 01's H
abbrev pub H : List ℕ
H = 0xDF ∷ 0xFF ∷ 0x01 ∷ 0xB0 ∷ 0x04 ∷ []

-- a document, the answer number and its place
pub record Case : Type 0 where
  pub document : List ℕ
  pub number : ℕ
  pub place : ℕ

abbrev pub case : List ℕ → ℕ → ℕ → Case
case document number place = record { document = document; number = number; place = place }
