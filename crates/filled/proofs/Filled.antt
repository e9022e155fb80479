-- The three tables after a reading: the rows that they hold are reading's, and those of an accepted reading are in their
-- places. Assumes nothing.
use Prim.Native.Nat.{ℕ, ◌*◌, ◌≤◌}
use mathlib.Core.Path.{◌≡◌, sym, ap, ◌∙◌}
use mathlib.Core.List.{List}
use native.Mathlib.Omega.{arith}
use lib.ListN.{length, length-append}
use Rattle.sequences.specs.Lists.{overlay}
use Rattle.scan.specs.declared.Room.{Room}
use Rattle.machine.specs.Machine.{flat_names, flat_qnames, flat_events, Result, reading, events_of, room_in, Reads}
use Rattle.machine.specs.Tables.{name_rows_in, qname_rows_in, event_rows_in, events_in, Filled}
use Rattle.machine.specs.declared.Answer as reader-answer
use Rattle.machine.proofs.Facts.{rows_fit}
use Rattle.machine.proofs.Rows.{length_names, length_qnames, length_events}
use Rattle.machine.proofs.Tables.{name_rows_back, qname_rows_back, event_rows_back}
use Rattle.filled.proofs.Rooms.{rows_few, stops_inside, accepted_short}
use Rattle.token.specs.Tokens.{name_width, qname_width, event_width}

-- a table holds what was laid over its front
front_long : (front l : List ℕ) → length front ≤ length (overlay front l)
front_long front l = simp length-append (omega arith)

-- ---- the tables after reading

module _ {r : Result} {names qnames events names' qnames' events' : List ℕ} {a : reader-answer.Answer} (h : Reads r names qnames events names' qnames' events' a) where
  -- the answer's parts
  pub number_read : a.number ≡ r.number
  number_read = ap (λ (x : reader-answer.Answer). x.number) h.answer_is

  pub place_read : a.place ≡ r.place
  place_read = ap (λ (x : reader-answer.Answer). x.place) h.answer_is

  pub names_read : a.names ≡ length r.final.names
  names_read = ap (λ (x : reader-answer.Answer). x.names) h.answer_is

  pub qnames_read : a.qnames ≡ length r.final.qnames
  qnames_read = ap (λ (x : reader-answer.Answer). x.qnames) h.answer_is

  pub events_read_fact : a.events ≡ length r.final.events
  events_read_fact = ap (λ (x : reader-answer.Answer). x.events) h.answer_is

  -- the rows in the tables are reading's
  pub names_back : name_rows_in a.names names' ≡ r.final.names
  names_back = rw (names_read, h.names_are) (name_rows_back r.final.names names)

  pub qnames_back : qname_rows_in a.qnames qnames' ≡ r.final.qnames
  qnames_back = rw (qnames_read, h.qnames_are) (qname_rows_back r.final.qnames qnames)

  pub events_back : event_rows_in a.events events' ≡ r.final.events
  events_back = rw (events_read_fact, h.events_are) (event_rows_back r.final.events events)

  -- the events of the tables are reading's
  pub same_events : (doc : List ℕ) → events_in doc names' qnames' events' a.names a.qnames a.events ≡ events_of doc r.final
  unfolding events_in events_of
  same_events doc = rw (names_back, qnames_back, events_back)

  -- the tables hold the rows
  pub names_long : name_width * a.names ≤ length names'
  names_long = rw h.names_are (let l = front_long (flat_names r.final.names) names in let m = length_names r.final.names in let n = names_read in omega arith)

  pub qnames_long : qname_width * a.qnames ≤ length qnames'
  qnames_long = rw h.qnames_are (let l = front_long (flat_qnames r.final.qnames) qnames in let m = length_qnames r.final.qnames in let n = qnames_read in omega arith)

  pub events_long : event_width * a.events ≤ length events'
  events_long = rw h.events_are (let l = front_long (flat_events r.final.events) events in let m = length_events r.final.events in let n = events_read_fact in omega arith)

-- an accepted reading fills the tables
pub read_filled : (doc : List ℕ) {names qnames events names' qnames' events' : List ℕ} {a : reader-answer.Answer}
    → Reads (reading doc (room_in (length names) (length qnames) (length events))) names qnames events names' qnames' events' a → a.number ≡ 0
    → Filled doc names' qnames' events' a.names a.qnames a.events
read_filled doc {names} {qnames} {events} h ok =
    let room : Room = room_in (length names) (length qnames) (length events) in
    let most = rows_few doc room in
    let fit = rows_fit doc room in
    record {
      short = accepted_short doc room (sym (number_read h) ∙ ok);
      few = omega (arith, most.names, names_read h);
      long = names_long h;
      qfew = omega (arith, most.qnames, qnames_read h);
      qlong = qnames_long h;
      efew = omega (arith, most.events, events_read_fact h);
      elong = events_long h;
      names_fit = rw (names_back h) fit.names;
      qnames_fit = rw (qnames_back h, names_read h) fit.qnames;
      last = (reading doc room).final.at;
      inside = stops_inside doc room;
      events_fit = rw (events_back h, names_read h, qnames_read h) fit.events;
    }
