-- The canonical form of a document, and what is said of reading it again (demand 2, second sentence).
use Rattle.std.specs.Prelude.{ℕ, ◌≤◌, ◌≡◌, List, map, length}
use Rattle.token.specs.Tokens.{accepted, longest}
use Rattle.scan.specs.declared.Room.{Room}
use Rattle.machine.specs.Machine.{EventRow, State, reading, Event, events_of}
use Rattle.form.specs.Canonical.{canonical}

-- the events of a reading, names by text
abbrev pub events_read : List ℕ → Room → List Event
events_read doc room = events_of doc (reading doc room).final

-- the form of a document that was read with this room
abbrev pub form_read : List ℕ → Room → List ℕ
form_read doc room = canonical (reading doc room).version (events_read doc room)

abbrev pub tokens_read : List ℕ → Room → List ℕ
tokens_read doc room = map (λ (e : EventRow). e.token) (reading doc room).final.events

-- a document is accepted, and its form is not refused for size
pub record Formed (doc : List ℕ) (room : Room) : Type 0 where
  pub number_is : (reading doc room).number ≡ accepted
  pub not_long : length (form_read doc room) ≤ longest

-- the form is accepted with the same tables: the same events and outer version, and no more rows
pub record ReadsAgain (doc : List ℕ) (room : Room) : Type 0 where
  pub number_is : (reading (form_read doc room) room).number ≡ accepted
  pub version_is : (reading (form_read doc room) room).version ≡ (reading doc room).version
  pub events_are : events_read (form_read doc room) room ≡ events_read doc room
  pub tokens_are : tokens_read (form_read doc room) room ≡ tokens_read doc room
  pub names_few : length (reading (form_read doc room) room).final.names ≤ length (reading doc room).final.names
  pub qnames_few : length (reading (form_read doc room) room).final.qnames ≤ length (reading doc room).final.qnames

-- tables with this room hold the rows of a reading
pub record Holds (room : Room) (s : State) : Type 0 where
  pub names_fit : length s.names ≤ room.names
  pub qnames_fit : length s.qnames ≤ room.qnames
  pub events_fit : length s.events ≤ room.events

-- a second document is accepted with the events and the outer version of a first, each with its tables
pub record ReadAlike (doc : List ℕ) (room : Room) (doc' : List ℕ) (room' : Room) : Type 0 where
  pub number_is : (reading doc' room').number ≡ accepted
  pub version_is : (reading doc' room').version ≡ (reading doc room).version
  pub events_are : events_read doc' room' ≡ events_read doc room
