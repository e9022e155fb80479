-- What rewriting promises: its answer, the three tables as reading leaves them, and the output, for any document, tables and
-- output (01, "Answer numbers").
use Rattle.std.specs.Prelude.{ℕ, ◌≡◌, cond, List, ltb, eqb, length}
use Rattle.sequences.specs.Lists.{overlay}
use Rattle.token.specs.Tokens.{accepted, no_room, form_too_long, longest}
use Rattle.machine.specs.Machine.{flat_names, flat_qnames, flat_events, Result, events_of}
use Rattle.form.specs.Canonical.{canonical}
use Rattle.rewriter_contract.specs.declared.Answer.{Answer}

abbrev pub answer : ℕ → ℕ → ℕ → Answer
answer number place size = record { number = number; place = place; length = size }

-- the form of a document that was read so
unfoldable pub form_of : List ℕ → Result → List ℕ
form_of doc r = canonical r.version (events_of doc r.final)

-- an accepted document: 13 for a form over 65,536 bytes, then 10 for an output that is too small, else the length written
unfoldable pub form_judged : ℕ → List ℕ → ℕ → Answer
form_judged place form room = cond (ltb longest (length form)) (answer form_too_long (length form) 0) (cond (ltb room (length form)) (answer no_room (length form) 0) (answer accepted place (length form)))

-- what writing a form does to an output
pub record FormWritten (form : List ℕ) (place : ℕ) (out out' : List ℕ) (a : Answer) : Type 0 where
  pub answer_is : a ≡ form_judged place form (length out)
  pub output_is : out' ≡ cond (eqb (form_judged place form (length out)).number accepted) (overlay form out) out

-- 1 to 9 are reading's
unfoldable pub rewrite_answer : List ℕ → Result → ℕ → Answer
rewrite_answer doc r room = cond (eqb r.number accepted) (form_judged r.place (form_of doc r) room) (answer r.number r.place 0)

-- the output holds the form, laid over what stood there; a refused output is not touched
unfoldable pub output_of : List ℕ → Result → List ℕ → List ℕ
output_of doc r out = cond (eqb (rewrite_answer doc r (length out)).number accepted) (overlay (form_of doc r) out) out

pub record Rewrites (doc : List ℕ) (r : Result) (names qnames events out names' qnames' events' out' : List ℕ) (a : Answer) : Type 0 where
  pub answer_is : a ≡ rewrite_answer doc r (length out)
  pub names_are : names' ≡ overlay (flat_names r.final.names) names
  pub qnames_are : qnames' ≡ overlay (flat_qnames r.final.qnames) qnames
  pub events_are : events' ≡ overlay (flat_events r.final.events) events
  pub output_is : out' ≡ output_of doc r out
