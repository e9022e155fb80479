-- Every byte string is answered by number and place, and the rows kept were finished before it (demand 1). Assumes nothing.
use Prim.Native.Nat.{ℕ, ◌+◌, ◌≤◌}
use mathlib.Core.Path.{◌≡◌, refl}
use mathlib.Core.List.{List, [], ◌∷◌}
use native.Mathlib.Omega.{arith}
use lib.ListN.{length}
use Rattle.sequences.specs.Arrays.{Every, none, first}
use Rattle.sequences.proofs.Members.{every_append, every_weaken}
use Rattle.std.specs.Prelude.{Result, Ok}
use Rattle.token.specs.declared.Refusal as tokens
use Rattle.token.specs.Tokens.{accepted, too_long, no_row, longest}
use Rattle.modes.specs.declared.View.{View}
use Rattle.scan.specs.Bounds.{Fine}
use Rattle.scan.specs.declared.Room.{Room}
use Rattle.scan.specs.declared.Step.{Step}
use Rattle.scan.proofs.Fine.{found_fine}
use Rattle.machine.specs.Machine.{NameRow, Scope, State, view, returned, apply, reading, read_answer, Reads}
use Rattle.machine.specs.Facts as facts
use Rattle.machine.specs.Facts.{NameFits}
use Rattle.machine.specs.Answered.{Answered}
use Rattle.machine.specs.declared.Answer.{Answer}
use Rattle.machine.proofs.Goes.{Goes, Halts, ended, refused}
use Rattle.machine.proofs.Trace.{kept}
use Rattle.machine.proofs.Found as found
use Rattle.machine.proofs.Found.{Found, found_step}
use Rattle.machine.proofs.Readings.{Unread, long, headless, by_reading}
use Rattle.machine.proofs.Facts.{placed_grows, sound_reading}

-- ---- the step that stops

record Told (size at number place : ℕ) : Type 0 where
  known : number ≤ no_row
  inside : place ≤ size
  from : at ≤ size → at ≤ place
  not_long : number ≡ too_long → ⊥
  at_end : number ≡ accepted → place ≡ size

told : {doc : List ℕ} {v : View} {room : Room} {number place : ℕ} {x : Result Step tokens.Refusal} → Halts number place x → Found doc v room x → Told (length doc) v.at number place
told refused (found.stop r) =
    let s = r.some in
    record { known = r.known; inside = r.inside; from = r.from; not_long = λ e. omega arith; at_end = λ e. absurd (let q : ⊥ = omega arith in q) }
told ended (found.ended l d e c) =
    record { known = omega arith; inside = omega arith; from = λ h. h; not_long = λ h. omega arith; at_end = λ h. refl }

-- ---- names end before the place that is reached

abbrev NamesEnd : State → Type 0
NamesEnd s = Every (NameFits s.at) s.names

fits_on : {m n : ℕ} {l : List NameRow} → m ≤ n → Every (NameFits m) l → Every (NameFits n) l
fits_on h e = every_weaken (λ r f. let i = f.inside in record { inside = omega arith }) e

returned_end : (s : State) (os : List Scope) (next : ℕ) → s.at ≤ next → NamesEnd s → NamesEnd (returned s os next)
returned_end s [] next h e = e
returned_end s (o ∷ os) next h e = fits_on h e

names_end : (doc : List ℕ) (room : Room) (s : State) (x : Step) → Goes x → Fine (length doc) (view s) room x → Found doc (view s) room (Ok x) → NamesEnd s → NamesEnd (apply s x)
names_end doc room s x g f (found.ended l d n c) e = absurd g
names_end doc room s x g f (found.name_def t i r) e = every_append (fits_on (omega arith) e) (first (record { inside = omega arith }) none)
names_end doc room s x g f (found.qname_def t a b c r) e = fits_on (omega arith) e
names_end doc room s x g f (found.skip t i l) e = fits_on (omega arith) e
names_end doc room s x g f (found.flush t) e = fits_on (omega arith) e
names_end doc room s x g f (found.texted t l i r) e = fits_on (omega arith) e
names_end doc room s x g f (found.encoding a m b i r) e = fits_on (omega arith) e
names_end doc room s x g f (found.standalone a d b r) e = fits_on (omega arith) e
names_end doc room s x g f (found.end_attributes t r) e = fits_on (omega arith) e
names_end doc room s x g f (found.cdata_end t r) e = fits_on (omega arith) e
names_end doc room s x g f (found.value t c i r) e = fits_on (omega arith) e
names_end doc room s x g f (found.qname_value t c i a b r) e = fits_on (omega arith) e
names_end doc room s x g f (found.attribute t i r) e = fits_on (omega arith) e
names_end doc room s x g f (found.element t o i r) e = fits_on (omega arith) e
names_end doc room s x g f (found.close t r) e = fits_on (omega arith) e
names_end doc room s x g f (found.pi t a i r) e = fits_on (omega arith) e
names_end doc room s x g f (found.nest t d i r) e = fits_on (omega arith) e
names_end doc room s x g f (found.leave t r) e = returned_end s s.outer (s.at + 1) (omega arith) e

-- ---- a reading

unread_told : {size number place : ℕ} → Unread size number place → (number ≤ no_row) × (place ≤ size) × (number ≡ too_long → place ≡ longest) × (number ≡ accepted → ⊥)
unread_told (long l) = (omega arith, omega arith, λ e. refl, λ e. omega arith)
unread_told (headless r) = let s = r.some in (r.known, r.inside, λ e. absurd (let q : ⊥ = omega arith in q), λ e. omega arith)

-- each reading, by the answer that is given of it
pub answered : (doc : List ℕ) (room : Room) → Answered doc (reading doc room) (read_answer (reading doc room))
answered doc room =
    by_reading doc room (λ r. Answered doc r (read_answer r))
    (λ number place u. let t = unread_told u in
    record {
      number_known = t.0;
      place_inside = t.1;
      place_accepted = λ e. absurd (t.3 e);
      place_long = t.2;
      names_before = none;
      events_before = facts.none;
    })
    (λ version next w. let t = told w.halts (found_step doc (view (reading doc room).final) room w.stop) in
    let p = t.from w.within in
    let a : length (reading doc room).final.names ≤ length (reading doc room).final.names = omega arith in
    let b : length (reading doc room).final.qnames ≤ length (reading doc room).final.qnames = omega arith in
    record {
      number_known = t.known;
      place_inside = t.inside;
      place_accepted = t.at_end;
      place_long = λ e. absurd (t.not_long e);
      names_before =
          fits_on p (kept doc room NamesEnd (λ s x e g q. names_end doc room s x g (found_fine doc (view s) room q) (found_step doc (view s) room q) e) w.trace none);
      events_before = placed_grows a b p (sound_reading doc room).rows.events;
    })

-- demand 1, of the job: its answer, and the rows that its tables hold
pub reads_answered : (doc : List ℕ) (room : Room) {names qnames events names' qnames' events' : List ℕ} {a : Answer}
    → Reads (reading doc room) names qnames events names' qnames' events' a → Answered doc (reading doc room) a
reads_answered doc room x = rw x.answer_is (answered doc room)
