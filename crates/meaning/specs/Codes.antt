-- Serves the code. Symbols as numbers, by which the program compares meanings. A text of names stands as its class, a number up
-- to 1,024.
use Rattle.std.specs.Prelude.{ℕ, ◌+◌, ◌*◌, ◌≤◌, ◌<◌, ◌≡◌, List, [], ◌∷◌, ◌++◌, map, length}
use Rattle.sequences.specs.Lists.{Bytes}
use Rattle.meaning.specs.Meaning.{Symbol, unit, opening, ending, attribute, closing, value, qname}
use Rattle.token.specs.Tokens.{name_rows}
use Rattle.machine.specs.Tables.{class_count}

-- the first mark, and the kinds of marks
abbrev pub first_mark : ℕ
first_mark = 65536

abbrev pub mark_kinds : ℕ
mark_kinds = 8

-- of an element, of an attribute and of XSD-QNAME, each with names; the end mark and the closing mark; the token of a value without
-- text, and a byte of its payload
abbrev pub opening_kind : ℕ
opening_kind = 0

abbrev pub attribute_kind : ℕ
attribute_kind = 1

abbrev pub qname_kind : ℕ
qname_kind = 2

abbrev pub end_kind : ℕ
end_kind = 3

abbrev pub closing_kind : ℕ
closing_kind = 4

abbrev pub token_kind : ℕ
token_kind = 5

abbrev pub byte_kind : ℕ
byte_kind = 6

-- a mark: its kind and its payload; a unit is below every mark
unfoldable pub mark : ℕ → ℕ → ℕ
mark kind payload = first_mark + mark_kinds * payload + kind

-- the payload of a mark with URI and local texts
abbrev pub both : (List ℕ → ℕ) → List ℕ → List ℕ → ℕ
both cls uri local = class_count * cls uri + cls local

-- one number for a symbol, and one more for each byte of a value without text
abbrev pub code_of : (List ℕ → ℕ) → Symbol → List ℕ
code_of cls (unit u) = u ∷ []
code_of cls (opening uri local) = mark opening_kind (both cls uri local) ∷ []
code_of cls (attribute uri local) = mark attribute_kind (both cls uri local) ∷ []
code_of cls (qname uri local) = mark qname_kind (both cls uri local) ∷ []
code_of cls ending = mark end_kind 0 ∷ []
code_of cls closing = mark closing_kind 0 ∷ []
code_of cls (value token payload) = mark token_kind token ∷ map (mark byte_kind) payload

-- the codes of a meaning, one after the other
unfoldable pub codes_of : (List ℕ → ℕ) → List Symbol → List ℕ
codes_of cls [] = []
codes_of cls (s ∷ l) = code_of cls s ++ codes_of cls l

-- the count of numbers of a symbol, and of a meaning
abbrev pub symbol_size : Symbol → ℕ
symbol_size (unit u) = 1
symbol_size (opening uri local) = 1
symbol_size (attribute uri local) = 1
symbol_size (qname uri local) = 1
symbol_size ending = 1
symbol_size closing = 1
symbol_size (value token payload) = 1 + length payload

unfoldable pub symbol_sizes : List Symbol → ℕ
symbol_sizes [] = 0
symbol_sizes (s ∷ l) = symbol_size s + symbol_sizes l

-- the classes of known texts are at most 1,024, and equal only for equal texts
pub record Classes (Known : List ℕ → Type 0) (cls : List ℕ → ℕ) : Type 0 where
  pub small : (t : List ℕ) → Known t → cls t ≤ name_rows
  pub apart : (t u : List ℕ) → Known t → Known u → cls t ≡ cls u → t ≡ u

-- what holds of each symbol of a document whose names' texts are known
abbrev pub Coded : (List ℕ → Type 0) → Symbol → Type 0
Coded Known (unit u) = u < first_mark
Coded Known (opening uri local) = Known uri × Known local
Coded Known (attribute uri local) = Known uri × Known local
Coded Known (qname uri local) = Known uri × Known local
Coded Known ending = Unit
Coded Known closing = Unit
Coded Known (value token payload) = (token < 256) × Bytes payload
