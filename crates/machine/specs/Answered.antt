-- Demand 1, of any reading: it is answered by number and place, and the rows that it keeps were finished before that place.
use Rattle.std.specs.Prelude.{ℕ, ◌≤◌, ◌≡◌, List, length}
use Rattle.sequences.specs.Arrays.{Every}
use Rattle.token.specs.Tokens.{accepted, too_long, no_row, longest}
use Rattle.machine.specs.Machine.{Result}
use Rattle.machine.specs.Facts.{NameFits, Placed}
use Rattle.machine.specs.declared.Answer.{Answer}

-- an answer, and the rows that stand in the tables (`Reads`, Machine.antt)
pub record Answered (doc : List ℕ) (r : Result) (a : Answer) : Type 0 where
  -- 0, or a refusal of reading: 1 to 9
  pub number_known : a.number ≤ no_row
  -- a place of the document or its end, its end where it is accepted, and 65,536 where it is longer than that
  pub place_inside : a.place ≤ length doc
  pub place_accepted : a.number ≡ accepted → a.place ≡ length doc
  pub place_long : a.number ≡ too_long → a.place ≡ longest
  -- the text of each name, and each event with its fields, ends at or before that place
  pub names_before : Every (NameFits a.place) r.final.names
  pub events_before : Placed doc (length r.final.names) (length r.final.qnames) r.final.events a.place
