-- Serves the code. What each step does to the code's tables and to its view, number by number.
use Rattle.std.specs.Prelude.{ℕ, zero, suc, ◌+◌, ◌-◌, ◌*◌, ◌≤◌, ◌<◌, ◌≡◌, List, length, get_or, set, Result, Ok, Err}
use Rattle.modes.specs.Modes.{after_metadata, after_misc}
use Rattle.modes.specs.declared.Mode.{Mode}
use Rattle.modes.specs.declared.Mode.TheVariants.{Content, Tag, First}
use Rattle.modes.specs.declared.View.{View}
use Rattle.rows.specs.declared.Frame.{Frame}
use Rattle.rows.specs.declared.Stacks.{Stacks}
use Rattle.scan.specs.declared.Room.{Room}
use Rattle.scan.specs.declared.Step.{Step}
use Rattle.scan.specs.declared.Step.TheVariants as step
use Rattle.token.specs.declared.Refusal.{Refusal}
use Rattle.machine.specs.declared.Answer.{Answer}
use Rattle.token.specs.Tokens.{ELEMENT_TOKEN, PI_TOKEN, ENDELEMENT_TOKEN, NEST_TOKEN, ENDNEST_TOKEN, name_width, qname_width, event_width, longest, name_rows, qname_rows, event_rows, open_elements, nested_documents}

-- the three lent tables, and what is kept of the open documents
pub record Tables : Type 0 where
  pub names : List ℕ
  pub qnames : List ℕ
  pub events : List ℕ
  pub stacks : Stacks

abbrev pub tables : List ℕ → List ℕ → List ℕ → Stacks → Tables
tables names qnames events stacks = record { names = names; qnames = qnames; events = events; stacks = stacks }

-- the next event has a row in the table that is lent, and its place fits that row
pub record EventFits (events : List ℕ) (v : View) : Type 0 where
  pub few_events : v.events < event_rows
  pub events_room : event_width * v.events + event_width ≤ length events
  pub short : v.at ≤ longest

abbrev pub put2 : List ℕ → ℕ → ℕ → ℕ → List ℕ
put2 l row a b = set (set l (name_width * row) a) (name_width * row + 1) b

abbrev pub put3 : List ℕ → ℕ → ℕ → ℕ → ℕ → List ℕ
put3 l row a b c = set (set (set l (qname_width * row) a) (qname_width * row + 1) b) (qname_width * row + 2) c

abbrev pub put4 : List ℕ → ℕ → ℕ → ℕ → ℕ → ℕ → List ℕ
put4 l row a b c d = set (set (set (set l (event_width * row) a) (event_width * row + 1) b) (event_width * row + 2) c) (event_width * row + 3) d

-- a document's frame: where its names and qnames stand in the stacks, how many there are, its open elements, its version
abbrev pub frame : View → Frame
frame v =
    record { base = v.base; known = v.known; qbase = v.qbase; qknown = v.qknown; elements = v.elements; version = v.version }

-- the stacks with the newest row as the next of its document's names, and of its qnames
abbrev pub with_name : Stacks → View → Stacks
with_name stacks v = record stacks { names = set stacks.names (v.base + v.known) (v.names + 1) }

abbrev pub with_qname : Stacks → View → Stacks
with_qname stacks v = record stacks { qnames = set stacks.qnames (v.qbase + v.qknown) (v.qnames + 1) }

-- and with the frame of the document that a nested one begins in
abbrev pub with_frame : Stacks → View → Stacks
with_frame stacks v = record stacks { frames = set stacks.frames v.depth (frame v) }

abbrev pub no_frame : Frame
no_frame = record { base = 0; known = 0; qbase = 0; qknown = 0; elements = 0; version = 0 }

-- the frame of the document around the innermost
abbrev pub parent : Stacks → View → Frame
parent stacks v = get_or stacks.frames (v.depth - 1) no_frame

-- the row of a number, in a stack on which its document begins at `base`
abbrev pub row_at : List ℕ → ℕ → ℕ → ℕ
row_at stack base zero = 0
row_at stack base (suc number) = get_or stack (base + number) 0

-- the view with another place and mode
abbrev pub moved : View → Mode → ℕ → View
moved v mode next =
    record {
      at = next;
      mode = mode;
      version = v.version;
      elements = v.elements;
      opened = v.opened;
      depth = v.depth;
      known = v.known;
      base = v.base;
      qknown = v.qknown;
      qbase = v.qbase;
      names = v.names;
      qnames = v.qnames;
      events = v.events;
    }

-- and one event more
abbrev pub evented : View → Mode → ℕ → View
evented v mode next =
    record {
      at = next;
      mode = mode;
      version = v.version;
      elements = v.elements;
      opened = v.opened;
      depth = v.depth;
      known = v.known;
      base = v.base;
      qknown = v.qknown;
      qbase = v.qbase;
      names = v.names;
      qnames = v.qnames;
      events = v.events + 1;
    }

abbrev pub named : View → ℕ → View
named v next =
    record {
      at = next;
      mode = after_metadata v.mode;
      version = v.version;
      elements = v.elements;
      opened = v.opened;
      depth = v.depth;
      known = v.known + 1;
      base = v.base;
      qknown = v.qknown;
      qbase = v.qbase;
      names = v.names + 1;
      qnames = v.qnames;
      events = v.events;
    }

abbrev pub qnamed : View → ℕ → View
qnamed v next =
    record {
      at = next;
      mode = after_metadata v.mode;
      version = v.version;
      elements = v.elements;
      opened = v.opened;
      depth = v.depth;
      known = v.known;
      base = v.base;
      qknown = v.qknown + 1;
      qbase = v.qbase;
      names = v.names;
      qnames = v.qnames + 1;
      events = v.events;
    }

abbrev pub flushed : View → ℕ → View
flushed v next =
    record {
      at = next;
      mode = after_metadata v.mode;
      version = v.version;
      elements = v.elements;
      opened = v.opened;
      depth = v.depth;
      known = 0;
      base = v.base;
      qknown = 0;
      qbase = v.qbase;
      names = v.names;
      qnames = v.qnames;
      events = v.events;
    }

abbrev pub entered : View → ℕ → View
entered v next =
    record {
      at = next;
      mode = Tag;
      version = v.version;
      elements = v.elements + 1;
      opened = v.opened + 1;
      depth = v.depth;
      known = v.known;
      base = v.base;
      qknown = v.qknown;
      qbase = v.qbase;
      names = v.names;
      qnames = v.qnames;
      events = v.events + 1;
    }

abbrev pub element_closed : View → ℕ → View
element_closed v next =
    record {
      at = next;
      mode = Content;
      version = v.version;
      elements = v.elements - 1;
      opened = v.opened - 1;
      depth = v.depth;
      known = v.known;
      base = v.base;
      qknown = v.qknown;
      qbase = v.qbase;
      names = v.names;
      qnames = v.qnames;
      events = v.events + 1;
    }

abbrev pub inside : View → ℕ → ℕ → View
inside v version next =
    record {
      at = next;
      mode = First;
      version = version;
      elements = 0;
      opened = v.opened;
      depth = v.depth + 1;
      known = 0;
      base = v.base + v.known;
      qknown = 0;
      qbase = v.qbase + v.qknown;
      names = v.names;
      qnames = v.qnames;
      events = v.events + 1;
    }

abbrev pub outside : Frame → View → ℕ → View
outside f v next =
    record {
      at = next;
      mode = Content;
      version = f.version;
      elements = f.elements;
      opened = v.opened;
      depth = v.depth - 1;
      known = f.known;
      base = f.base;
      qknown = f.qknown;
      qbase = f.qbase;
      names = v.names;
      qnames = v.qnames;
      events = v.events + 1;
    }

-- the tables after a step
abbrev pub tables_after : Tables → View → Step → Tables
tables_after t v (step.End place) = t
tables_after t v (step.Name place units next) =
    tables (put2 t.names v.names place units) t.qnames t.events (with_name t.stacks v)
tables_after t v (step.Qname uri prefix local next) =
    let row = row_at t.stacks.names v.base in
    tables t.names (put3 t.qnames v.qnames (row uri.0) (row prefix.0) (row local.0)) t.events (with_qname t.stacks v)
tables_after t v (step.Skip next) = t
tables_after t v (step.Flush next) = t
tables_after t v (step.Event token a b mode next) =
    tables t.names t.qnames (put4 t.events v.events token v.at a b) t.stacks
tables_after t v (step.Refer token number mode next) =
    tables t.names t.qnames (put4 t.events v.events token v.at (row_at t.stacks.qnames v.qbase number.0) 0) t.stacks
tables_after t v (step.Open number next) =
    tables t.names t.qnames (put4 t.events v.events ELEMENT_TOKEN v.at (row_at t.stacks.qnames v.qbase number.0) 0) t.stacks
tables_after t v (step.Pi target start next) =
    tables t.names t.qnames (put4 t.events v.events PI_TOKEN v.at (row_at t.stacks.names v.base target.0) start) t.stacks
tables_after t v (step.Close next) =
    tables t.names t.qnames (put4 t.events v.events ENDELEMENT_TOKEN v.at 0 0) t.stacks
tables_after t v (step.Nest version next) =
    tables t.names t.qnames (put4 t.events v.events NEST_TOKEN v.at version 0) (with_frame t.stacks v)
tables_after t v (step.Leave next) =
    tables t.names t.qnames (put4 t.events v.events ENDNEST_TOKEN v.at 0 0) t.stacks

-- the view after a step
abbrev pub view_after : Tables → View → Step → View
view_after t v (step.End place) = v
view_after t v (step.Name place units next) = named v next
view_after t v (step.Qname uri prefix local next) = qnamed v next
view_after t v (step.Skip next) = moved v (after_metadata v.mode) next
view_after t v (step.Flush next) = flushed v next
view_after t v (step.Event token a b mode next) = evented v mode next
view_after t v (step.Refer token number mode next) = evented v mode next
view_after t v (step.Open number next) = entered v next
view_after t v (step.Pi target start next) = evented v (after_misc v.mode) next
view_after t v (step.Close next) = element_closed v next
view_after t v (step.Nest version next) = inside v version next
view_after t v (step.Leave next) = outside (parent t.stacks v) v next

-- the answer at a view
abbrev pub answer_at : View → ℕ → ℕ → ℕ → Answer
answer_at v number place version =
    record { number = number; place = place; names = v.names; qnames = v.qnames; events = v.events; version = version }

pub record Turned (t t' : Tables) (v : View) (s : Step) (r : View) : Type 0 where
  pub names_are : t'.names ≡ (tables_after t v s).names
  pub qnames_are : t'.qnames ≡ (tables_after t v s).qnames
  pub events_are : t'.events ≡ (tables_after t v s).events
  pub stacks_are : t'.stacks ≡ (tables_after t v s).stacks
  pub view_is : r ≡ view_after t v s

-- what was found: a refusal leaves the tables, the stacks and the view as they were
abbrev pub TurnedIf : Tables → Tables → View → Result Step Refusal → View → Type 0
TurnedIf t t' v (Ok x) r = Turned t t' v x r
TurnedIf t t' v (Err f) r = (t' ≡ t) × (r ≡ v)

-- what holds of the view and the tables before each step: what is read and written lies inside them
pub record Held (size : ℕ) (room : Room) (t : Tables) (v : View) : Type 0 where
  pub short : size ≤ longest
  pub at_in : v.at ≤ size
  pub names_room : name_width * room.names ≤ length t.names
  pub qnames_room : qname_width * room.qnames ≤ length t.qnames
  pub events_room : event_width * room.events ≤ length t.events
  pub few_names : room.names ≤ name_rows
  pub few_qnames : room.qnames ≤ qname_rows
  pub few_events : room.events ≤ event_rows
  pub names_held : v.names ≤ room.names
  pub qnames_held : v.qnames ≤ room.qnames
  pub events_held : v.events ≤ room.events
  pub known_in : v.base + v.known ≤ v.names
  pub qknown_in : v.qbase + v.qknown ≤ v.qnames
  pub shallow : v.depth ≤ nested_documents
  pub opened_in : v.elements ≤ v.opened
  pub few_open : v.opened ≤ open_elements
  pub stack_long : length t.stacks.names ≡ name_rows
  pub qstack_long : length t.stacks.qnames ≡ qname_rows
  pub frames_long : length t.stacks.frames ≡ nested_documents

-- what holds before the first step, of the tables that are lent
pub record ReadingBegins (size : ℕ) (room : Room) (names qnames events : List ℕ) (next : ℕ) : Type 0 where
  pub short : size ≤ longest
  pub at_in : next ≤ size
  pub names_room : name_width * room.names ≤ length names
  pub qnames_room : qname_width * room.qnames ≤ length qnames
  pub events_room : event_width * room.events ≤ length events
  pub few_names : room.names ≤ name_rows
  pub few_qnames : room.qnames ≤ qname_rows
  pub few_events : room.events ≤ event_rows
