-- What the listing program prints for a document, in ASCII (01, "Extracts worked by hand": "First line: records, pairs. Each
-- other line: earlier, later record. .. A refusal prints one line, `refused C at N`").
use Rattle.std.specs.Prelude.{ℕ, zero, suc, ◌≡◌, cond, List, [], ◌∷◌, ◌++◌, eqb, get_or, drop}
use Rattle.token.specs.Tokens.{accepted}
use Rattle.print_lines.specs.Lines.{line, refused_word, at_word}
use Rattle.machine.specs.Machine.{reading, full}
use Rattle.meaning.specs.Meaning.{Pair, pair}
use Rattle.lister_contract.specs.declared.Answer.{Answer}
use Rattle.lister_contract.specs.Contract.{list_answer, pairs_in, list_of}

-- "records ", " pairs "
abbrev pub records_word : List ℕ
records_word = 0x72 ∷ 0x65 ∷ 0x63 ∷ 0x6F ∷ 0x72 ∷ 0x64 ∷ 0x73 ∷ 0x20 ∷ []

abbrev pub pairs_word : List ℕ
pairs_word = 0x20 ∷ 0x70 ∷ 0x61 ∷ 0x69 ∷ 0x72 ∷ 0x73 ∷ 0x20 ∷ []

-- `EARLIER LATER` for each pair
unfoldable pub pair_lines : List Pair → List ℕ
pair_lines [] = []
pair_lines (p ∷ ps) = line [] p.earlier (0x20 ∷ []) p.later ++ pair_lines ps

-- `records R pairs P` and the pairs, or `refused C at N`
unfoldable pub answer_lines : Answer → List Pair → List ℕ
answer_lines a ps =
    cond (eqb a.number accepted) (line records_word a.records pairs_word a.pairs ++ pair_lines ps) (line refused_word a.number at_word a.place)

-- the pairs that the program's list holds
abbrev pub listed_pairs : ℕ
listed_pairs = 8192

-- tables at the full bounds
unfoldable pub printed : List ℕ → List ℕ
printed doc = answer_lines (list_answer doc (reading doc full) listed_pairs) (pairs_in doc (reading doc full))

-- ---- the pairs as numbers

-- the first n pairs of numbers of a list
abbrev pub pair_rows : ℕ → List ℕ → List Pair
pair_rows zero l = []
pair_rows (suc n) l = pair (get_or l 0 0) (get_or l 1 0) ∷ pair_rows n (drop 2 l)

-- listing with tables at the full bounds: the answer, and the list afterwards
pub record FullListed (doc list list' : List ℕ) (a : Answer) : Type 0 where
  pub answer_is : a ≡ list_answer doc (reading doc full) listed_pairs
  pub list_is : list' ≡ list_of doc (reading doc full) list
