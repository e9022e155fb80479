-- What showing a value promises: its answer, and what the lent buffer holds (01, "Text of a value", "Answer numbers").
use Rattle.std.specs.Prelude.{ℕ, ◌*◌, ◌≡◌, Bool, true, false, cond, List, [], length, take, leb}
use Rattle.std.proofs.Math.Option.{Option, none, some}
use Rattle.sequences.specs.Lists.{overlay, bytes_of}
use Rattle.token.specs.Tokens.{accepted, no_room, no_text}
use Rattle.text.specs.declared.Shown.{Shown}
use Rattle.text.specs.declared.Shown.TheVariants.{Own, Made, Short, NoText}
use Rattle.plan.specs.Text.{kind_of, text_of, is_same}

-- the answer for a text of these bytes in a buffer of so much room, and what the buffer then holds
unfoldable pub laid : List ℕ → ℕ → Shown
laid bytes room = cond (leb (length bytes) room) (Made (length bytes)) (Short (length bytes))

unfoldable pub laid_in : List ℕ → List ℕ → List ℕ
laid_in bytes buffer = cond (leb (length bytes) (length buffer)) (overlay bytes buffer) buffer

-- the answer: the length of a text that the payload is (`own`), or of one that the buffer holds
abbrev pub shown_by : Bool → Option (List ℕ) → ℕ → Shown
shown_by own none room = NoText
shown_by true (some units) room = Own (2 * length units)
shown_by false (some units) room = laid (bytes_of units) room

-- the buffer afterwards
abbrev pub held_by : Bool → Option (List ℕ) → List ℕ → List ℕ
held_by own none buffer = buffer
held_by true (some units) buffer = buffer
held_by false (some units) buffer = laid_in (bytes_of units) buffer

-- the number of an answer, and its place or count (01, "Answer numbers")
pub record Answer : Type 0 where
  pub number : ℕ
  pub count : ℕ

abbrev pub with_count : ℕ → ℕ → Answer
with_count number count = record { number = number; count = count }

abbrev pub text_answer : Shown → Answer
text_answer (Own n) = with_count accepted n
text_answer (Made n) = with_count accepted n
text_answer (Short n) = with_count no_room n
text_answer NoText = with_count no_text 0

-- 12 where the value has no text; 10 with the bytes needed where the text has to be made and the buffer has no room; else 0 with its bytes
abbrev pub shown_answer : Bool → Option (List ℕ) → ℕ → Answer
shown_answer own none room = with_count no_text 0
shown_answer true (some units) room = with_count accepted (2 * length units)
shown_answer false (some units) room =
    cond (leb (length (bytes_of units)) room) (with_count accepted (length (bytes_of units))) (with_count no_room (length (bytes_of units)))

-- what showing a value does: its answer, by number and count and by its case, and the buffer before and after
pub record Shows (token : ℕ) (p before after : List ℕ) (r : Shown) : Type 0 where
  pub number_is : text_answer r ≡ shown_answer (is_same (kind_of token)) (text_of token p) (length before)
  pub answer : r ≡ shown_by (is_same (kind_of token)) (text_of token p) (length before)
  pub holds : after ≡ held_by (is_same (kind_of token)) (text_of token p) before

-- the part of the payload or of the buffer that an answer speaks of; a refused text has an empty part
abbrev pub part_of : List ℕ → List ℕ → Shown → List ℕ
part_of p buffer (Own n) = take n p
part_of p buffer (Made n) = take n buffer
part_of p buffer (Short n) = []
part_of p buffer NoText = []

-- the bytes that such a part has: those of the text, or none where it is refused (no text, or no room for it)
abbrev pub handed : Bool → Option (List ℕ) → ℕ → List ℕ
handed own none room = []
handed true (some units) room = bytes_of units
handed false (some units) room = cond (leb (length (bytes_of units)) room) (bytes_of units) []
