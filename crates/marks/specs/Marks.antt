-- Serves the code. A table with one mark for each row of qnames, and what a mark tells.
use Rattle.std.specs.Prelude.{ℕ, ◌+◌, ◌-◌, ◌%◌, ◌≤◌, ◌≡◌, Bool, cond, List, leb, length, get_or}
use Rattle.meaning.specs.Codes.{mark, opening_kind}
use Rattle.marks.specs.Names.{pair_of, largest_pair, declares_at}
use Rattle.token.specs.Tokens.{qname_rows}

-- ---- marks of rows of qnames, in a table from row 1 on

-- 2 ^ 31: no mark of a row is so large, so that one more can be told from it
abbrev pub declaring : ℕ
declaring = 2147483648

-- the opening mark
unfoldable pub opening_in : List ℕ → ℕ → ℕ
opening_in marks row = get_or marks (row - 1) 0 % declaring

-- an attribute with this qname declares a prefix
unfoldable pub declared_in : List ℕ → ℕ → Bool
declared_in marks row = leb declaring (get_or marks (row - 1) 0)

-- the opening mark of row `row` of qnames, and 2 ^ 31 more where an attribute with this qname declares a prefix
unfoldable pub mark_of : List ℕ → List ℕ → List ℕ → List ℕ → ℕ → ℕ → ℕ
mark_of doc names qnames classes rows row = mark opening_kind (pair_of qnames classes row) + cond (declares_at doc names qnames rows row) declaring 0

-- the table: at place row - 1 the mark of row `row`; the pairs are small, so that 2 ^ 31 more can be told from a mark alone
pub record MarksOf (doc names qnames classes : List ℕ) (rows qrows : ℕ) (marks : List ℕ) : Type 0 where
  pub long : length marks ≡ qname_rows
  pub each : (row : ℕ) → 1 ≤ row → row ≤ qrows → get_or marks (row - 1) 0 ≡ mark_of doc names qnames classes rows row
  pub small : (row : ℕ) → 1 ≤ row → row ≤ qrows → pair_of qnames classes row ≤ largest_pair
