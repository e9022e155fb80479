-- What the value program prints, in ASCII: `accepted N` and on the next line the text's bytes in hexadecimal, or `refused C at N`
-- (01, "Answer numbers" and "Text of a value"; the layout is not 01's, docs/DECISIONS.md 59).
use Rattle.std.specs.Prelude.{ℕ, cond, List, [], ◌∷◌, ◌++◌, eqb, length}
use Rattle.std.proofs.Math.Option.{Option, none, some}
use Rattle.sequences.specs.Lists.{bytes_of}
use Rattle.token.specs.Tokens.{accepted, no_text}
use Rattle.hexadecimal.specs.Hexadecimal.{hex}
use Rattle.plan.specs.Text.{text_of}
use Rattle.text.specs.Shows.{Answer}
use Rattle.print_lines.specs.Lines.{field, line, accepted_word, refused_word, at_word}

unfoldable pub text_lines : List ℕ → List ℕ
text_lines bytes = field accepted_word (length bytes) ++ (0x0A ∷ (hex bytes ++ (0x0A ∷ [])))

unfoldable pub refusal : ℕ → ℕ → List ℕ
refusal number count = line refused_word number at_word count

-- the text of a value, or 12
abbrev pub value_lines : Option (List ℕ) → List ℕ
value_lines none = refusal no_text 0
value_lines (some units) = text_lines (bytes_of units)

-- the input is a token byte and then the payload
abbrev pub printed : List ℕ → List ℕ
printed [] = refusal no_text 0
printed (token ∷ payload) = value_lines (text_of token payload)

-- ---- an answer, and the part of the payload or of the buffer that it speaks of

unfoldable pub shown_lines : Answer → List ℕ → List ℕ
shown_lines a bytes = cond (eqb a.number accepted) (text_lines bytes) (refusal a.number a.count)
