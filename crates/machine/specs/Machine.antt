-- Reading, from left to right (01, "Document rules", "Rows", "Answer numbers"): what is open, what each token does, the
-- machine that takes one token after the other, what reading promises, and the events of a reading.
use Rattle.std.specs.Prelude.{ℕ, zero, suc, ◌+◌, ◌-◌, ◌/◌, min, ◌*◌, List, [], ◌∷◌, ◌++◌, map, cond, ltb, eqb, length, get_or, ◌≡◌, Ok, Err}
use Rattle.std.specs.Prelude as std
use Rattle.std.proofs.Math.ListN.{get_elem?}
use Rattle.token.specs.Tokens.{mb32, accepted, too_long, longest, name_rows, qname_rows, event_rows, name_width, qname_width, event_width, NEST_TOKEN, ENDNEST_TOKEN, ELEMENT_TOKEN, PI_TOKEN, ENDELEMENT_TOKEN, XSD_QNAME, class_of}
use Rattle.token.specs.Faults.{number_of}
use Rattle.token.specs.declared.Refusal.{Refusal}
use Rattle.fields.specs.Fields.{header_at}
use Rattle.fields.specs.declared.Header.{Header}
use Rattle.modes.specs.Modes.{after_metadata, after_misc}
use Rattle.scan.specs.Steps.{step_at}
use Rattle.modes.specs.declared.Mode.{Mode}
use Rattle.modes.specs.declared.Mode.TheVariants.{Content, Tag, First}
use Rattle.modes.specs.declared.View.{View}
use Rattle.scan.specs.declared.Room.{Room}
use Rattle.scan.specs.declared.Step.{Step}
use Rattle.scan.specs.declared.Step.TheVariants as step
use Rattle.sequences.specs.Lists.{overlay, part}
use Rattle.machine.specs.declared.Answer.{Answer}
use Rattle.std.proofs.Math.Option.{Option, none, some}
use Rattle.token.specs.declared.Class.{Class}
use Rattle.token.specs.declared.Class.TheVariants as class
use Rattle.value.specs.Fields.{text_at}
use Rattle.value.specs.declared.Text.{Text}

-- ---- the rows of the three tables (01, "Rows"), and how they stand in a table of numbers

-- a name: the place of its first text byte, and its units
pub record NameRow : Type 0 where
  pub place : ℕ
  pub units : ℕ

-- a qname: the name rows of its URI, prefix and local name, 0 for the empty name
pub record QnameRow : Type 0 where
  pub uri : ℕ
  pub prefix : ℕ
  pub local : ℕ

-- an event: its token, the token's place, and two numbers
pub record EventRow : Type 0 where
  pub token : ℕ
  pub place : ℕ
  pub a : ℕ
  pub b : ℕ

abbrev pub name_row : ℕ → ℕ → NameRow
name_row place units = record { place = place; units = units }

abbrev pub qname_row : ℕ → ℕ → ℕ → QnameRow
qname_row uri prefix local = record { uri = uri; prefix = prefix; local = local }

abbrev pub event : ℕ → ℕ → ℕ → ℕ → EventRow
event token place a b = record { token = token; place = place; a = a; b = b }

-- the numbers of some rows, row after row
abbrev pub flat_names : List NameRow → List ℕ
flat_names [] = []
flat_names (r ∷ rs) = r.place ∷ r.units ∷ flat_names rs

abbrev pub flat_qnames : List QnameRow → List ℕ
flat_qnames [] = []
flat_qnames (r ∷ rs) = r.uri ∷ r.prefix ∷ r.local ∷ flat_qnames rs

abbrev pub flat_events : List EventRow → List ℕ
flat_events [] = []
flat_events (r ∷ rs) = r.token ∷ r.place ∷ r.a ∷ r.b ∷ flat_events rs

-- ---- the machine

-- an open document: its version, the rows of its names and of its qnames in the order of their numbers, its open elements
pub record Scope : Type 0 where
  pub version : ℕ
  pub names : List ℕ
  pub qnames : List ℕ
  pub elements : ℕ

abbrev pub scope : ℕ → List ℕ → List ℕ → ℕ → Scope
scope version names qnames elements = record { version = version; names = names; qnames = qnames; elements = elements }

-- the innermost open document, those around it from the inside out, and the rows completed
pub record State : Type 0 where
  pub at : ℕ
  pub mode : Mode
  pub here : Scope
  pub outer : List Scope
  pub names : List NameRow
  pub qnames : List QnameRow
  pub events : List EventRow

abbrev pub state : ℕ → Mode → Scope → List Scope → List NameRow → List QnameRow → List EventRow → State
state at mode here outer names qnames events =
    record { at = at; mode = mode; here = here; outer = outer; names = names; qnames = qnames; events = events }

-- elements, names and qnames of the documents around the innermost
abbrev pub elements_in : List Scope → ℕ
elements_in [] = 0
elements_in (o ∷ os) = elements_in os + o.elements

abbrev pub names_in : List Scope → List ℕ
names_in [] = []
names_in (o ∷ os) = names_in os ++ o.names

abbrev pub qnames_in : List Scope → List ℕ
qnames_in [] = []
qnames_in (o ∷ os) = qnames_in os ++ o.qnames

-- what the next token is judged by; `base` and `qbase`, where the rows of this document begin on the reader's stacks, are looked at by no
-- test of `step_at`
abbrev pub view : State → View
view s =
    record {
      at = s.at;
      mode = s.mode;
      version = s.here.version;
      elements = s.here.elements;
      opened = elements_in s.outer + s.here.elements;
      depth = length s.outer;
      known = length s.here.names;
      base = length (names_in s.outer);
      qknown = length s.here.qnames;
      qbase = length (qnames_in s.outer);
      names = length s.names;
      qnames = length s.qnames;
      events = length s.events;
    }

-- the row of a number among the rows of its document; number 0 is the empty name, row 0
abbrev pub row_of : List ℕ → ℕ → ℕ
row_of rows zero = 0
row_of rows (suc number) = get_or rows number 0

-- after an event: the same documents
abbrev pub onward : State → EventRow → Mode → Scope → ℕ → State
onward s e mode here next = state next mode here s.outer s.names s.qnames (s.events ++ (e ∷ []))

-- a nested document begins: it has no names yet
abbrev pub nested : State → ℕ → ℕ → State
nested s version next =
    state next First (scope version [] [] 0) (s.here ∷ s.outer) s.names s.qnames (s.events ++ (event NEST_TOKEN s.at version 0 ∷ []))

-- it ends: its parent's version, names and qnames return
abbrev pub returned : State → List Scope → ℕ → State
returned s [] next = s
returned s (o ∷ os) next = state next Content o os s.names s.qnames (s.events ++ (event ENDNEST_TOKEN s.at 0 0 ∷ []))

-- what a step does
abbrev pub apply : State → Step → State
apply s (step.End place) = s
apply s (step.Name place units next) =
    state next (after_metadata s.mode)
    (scope s.here.version (s.here.names ++ ((length s.names + 1) ∷ [])) s.here.qnames s.here.elements)
    s.outer (s.names ++ (name_row place units ∷ [])) s.qnames s.events
apply s (step.Qname uri prefix local next) =
    let names = s.here.names in
    state next (after_metadata s.mode)
    (scope s.here.version names (s.here.qnames ++ ((length s.qnames + 1) ∷ [])) s.here.elements)
    s.outer s.names (s.qnames ++ (qname_row (row_of names uri.0) (row_of names prefix.0) (row_of names local.0) ∷ [])) s.events
apply s (step.Skip next) = state next (after_metadata s.mode) s.here s.outer s.names s.qnames s.events
apply s (step.Flush next) =
    state next (after_metadata s.mode) (scope s.here.version [] [] s.here.elements) s.outer s.names s.qnames s.events
apply s (step.Event token a b mode next) = onward s (event token s.at a b) mode s.here next
apply s (step.Refer token number mode next) = onward s (event token s.at (row_of s.here.qnames number.0) 0) mode s.here next
apply s (step.Open number next) =
    onward s (event ELEMENT_TOKEN s.at (row_of s.here.qnames number.0) 0) Tag
    (scope s.here.version s.here.names s.here.qnames (s.here.elements + 1)) next
apply s (step.Pi target start next) = onward s (event PI_TOKEN s.at (row_of s.here.names target.0) start) (after_misc s.mode) s.here next
apply s (step.Close next) =
    onward s (event ENDELEMENT_TOKEN s.at 0 0) Content (scope s.here.version s.here.names s.here.qnames (s.here.elements - 1)) next
apply s (step.Nest version next) = nested s version next
apply s (step.Leave next) = returned s s.outer next

-- an answer number with its place, the state that was reached, and the outer version
pub record Result : Type 0 where
  pub number : ℕ
  pub place : ℕ
  pub version : ℕ
  pub final : State

abbrev pub result : ℕ → ℕ → ℕ → State → Result
result number place version final = record { number = number; place = place; version = version; final = final }

-- the machine stops, or goes on in the next state
abbrev pub continued : ℕ → State → (State → Result) → std.Result Step Refusal → Result
continued version s onward (Ok (step.End place)) = result accepted place version s
continued version s onward (Ok (step.Name place units next)) = onward (apply s (step.Name place units next))
continued version s onward (Ok (step.Qname uri prefix local next)) = onward (apply s (step.Qname uri prefix local next))
continued version s onward (Ok (step.Skip next)) = onward (apply s (step.Skip next))
continued version s onward (Ok (step.Flush next)) = onward (apply s (step.Flush next))
continued version s onward (Ok (step.Event token a b mode next)) = onward (apply s (step.Event token a b mode next))
continued version s onward (Ok (step.Refer token number mode next)) = onward (apply s (step.Refer token number mode next))
continued version s onward (Ok (step.Open number next)) = onward (apply s (step.Open number next))
continued version s onward (Ok (step.Pi target start next)) = onward (apply s (step.Pi target start next))
continued version s onward (Ok (step.Close next)) = onward (apply s (step.Close next))
continued version s onward (Ok (step.Nest version' next)) = onward (apply s (step.Nest version' next))
continued version s onward (Ok (step.Leave next)) = onward (apply s (step.Leave next))
continued version s onward (Err r) = result (number_of r.fault) r.place version s

-- at most so many steps; more than the document has bytes are never needed (`stops_reading`, proofs/Trace.antt), so 255 is never answered
unfoldable pub run : ℕ → List ℕ → Room → ℕ → State → Result
run zero doc room version s = result 255 s.at version s
run (suc steps) doc room version s = continued version s (λ t. run steps doc room version t) (step_at doc (view s) room)

-- before the outer header, and after it
abbrev pub blank : State
blank = state 0 First (scope 0 [] [] 0) [] [] [] []

abbrev pub started : ℕ → ℕ → State
started version next = state next First (scope version [] [] 0) [] [] [] []

abbrev pub begun : List ℕ → Room → std.Result Header Refusal → Result
begun doc room (Ok h) = run (suc (length doc)) doc room h.version (started h.version h.next)
begun doc room (Err r) = result (number_of r.fault) r.place 0 blank

-- reading a document into tables with this room; 1 is tested first
unfoldable pub reading : List ℕ → Room → Result
reading doc room = cond (ltb longest (length doc)) (result too_long longest 0 blank) (begun doc room (header_at doc 0))

-- ---- what reading promises: its answer and the contents of the three tables, for any document and any tables

-- the whole rows that lent tables of these lengths hold, within the bounds of 01
abbrev pub room_in : ℕ → ℕ → ℕ → Room
room_in names qnames events = record { names = min (names / name_width) name_rows; qnames = min (qnames / qname_width) qname_rows; events = min (events / event_width) event_rows }

-- tables at the full bounds, as the programs lend them
abbrev pub full : Room
full = record { names = name_rows; qnames = qname_rows; events = event_rows }

-- number, place, the three row counts and the outer version
abbrev pub read_answer : Result → Answer
read_answer r =
    record {
      number = r.number;
      place = r.place;
      names = length r.final.names;
      qnames = length r.final.qnames;
      events = length r.final.events;
      version = r.version;
    }

-- each table holds the rows completed, laid over what stood there
pub record Reads (r : Result) (names qnames events names' qnames' events' : List ℕ) (answer : Answer) : Type 0 where
  pub answer_is : answer ≡ read_answer r
  pub names_are : names' ≡ overlay (flat_names r.final.names) names
  pub qnames_are : qnames' ≡ overlay (flat_qnames r.final.qnames) qnames
  pub events_are : events' ≡ overlay (flat_events r.final.events) events

-- ---- the events with names by text (01, "Meaning and canonical form": the same tokens, texts, payloads, standalone values and
-- versions, names by text); canonical form and meaning are defined on these alone

-- a text is the list of its bytes, in UTF-16LE
pub data Event : Type 0 where
  -- XMLDECL, ENCODING, DOCTYPEDECL, SYSTEM, PUBLIC, SUBSET, COMMENT, CDATA: the token and its text
  texted : ℕ → List ℕ → Event
  -- the standalone byte
  standalone : ℕ → Event
  -- a PI: its target and its text
  pi : List ℕ → List ℕ → Event
  -- ELEMENT, ATTRIBUTE, XSD-QNAME: the token; URI, prefix and local texts
  qnamed : ℕ → List ℕ → List ℕ → List ℕ → Event
  -- a value: its token and its payload
  valued : ℕ → List ℕ → Event
  -- NEST: the nested document's version
  nest : ℕ → Event
  -- ENDELEMENT, ENDATTRIBUTES, CDATAEND, ENDNEST
  plain : ℕ → Event

-- the text of a row of names; row 0 is the empty name
abbrev pub text_in : List ℕ → Option NameRow → List ℕ
text_in doc none = []
text_in doc (some r) = part doc r.place (2 * r.units)

unfoldable pub name_text : List ℕ → List NameRow → ℕ → List ℕ
name_text doc names zero = []
name_text doc names (suc k) = text_in doc (get_elem? names k)

-- an event that refers to a row of qnames
abbrev pub qname_in : List ℕ → List NameRow → ℕ → Option QnameRow → Event
qname_in doc names token none = plain token
qname_in doc names token (some q) = qnamed token (name_text doc names q.uri) (name_text doc names q.prefix) (name_text doc names q.local)

abbrev pub qname_event : List ℕ → List NameRow → List QnameRow → ℕ → ℕ → Event
qname_event doc names qnames token zero = plain token
qname_event doc names qnames token (suc k) = qname_in doc names token (get_elem? qnames k)

-- the text whose length stands at a place
abbrev pub data_in : List ℕ → std.Result Text Refusal → List ℕ
data_in doc (Ok t) = part doc t.place (2 * t.units)
data_in doc (Err r) = []

-- by the token's class; token 0 is the standalone byte, 8C refers to a qname
abbrev pub event_by : Class → List ℕ → List NameRow → List QnameRow → EventRow → Event
event_by class.Unknown doc names qnames e = standalone e.a
event_by class.Value doc names qnames e =
    cond (eqb e.token XSD_QNAME) (qname_event doc names qnames e.token e.a) (valued e.token (part doc e.a e.b))
event_by class.LaterValue doc names qnames e = valued e.token (part doc e.a e.b)
event_by class.XmlDecl doc names qnames e = texted e.token (part doc e.a (2 * e.b))
event_by class.Encoding doc names qnames e = texted e.token (part doc e.a (2 * e.b))
event_by class.DocType doc names qnames e = texted e.token (part doc e.a (2 * e.b))
event_by class.System doc names qnames e = texted e.token (part doc e.a (2 * e.b))
event_by class.Public doc names qnames e = texted e.token (part doc e.a (2 * e.b))
event_by class.Subset doc names qnames e = texted e.token (part doc e.a (2 * e.b))
event_by class.Element doc names qnames e = qname_event doc names qnames e.token e.a
event_by class.EndElement doc names qnames e = plain e.token
event_by class.Attribute doc names qnames e = qname_event doc names qnames e.token e.a
event_by class.EndAttributes doc names qnames e = plain e.token
event_by class.Pi doc names qnames e = pi (name_text doc names e.a) (data_in doc (text_at mb32 doc e.b))
event_by class.Comment doc names qnames e = texted e.token (part doc e.a (2 * e.b))
event_by class.Cdata doc names qnames e = texted e.token (part doc e.a (2 * e.b))
event_by class.CdataEnd doc names qnames e = plain e.token
event_by class.NameDef doc names qnames e = plain e.token
event_by class.QnameDef doc names qnames e = plain e.token
event_by class.Nest doc names qnames e = nest e.a
event_by class.EndNest doc names qnames e = plain e.token
event_by class.Extension doc names qnames e = plain e.token
event_by class.Flush doc names qnames e = plain e.token

unfoldable pub event_of : List ℕ → List NameRow → List QnameRow → EventRow → Event
event_of doc names qnames e = event_by (class_of e.token) doc names qnames e

-- the events of the rows completed
unfoldable pub events_of : List ℕ → State → List Event
events_of doc s = map (event_of doc s.names s.qnames) s.events
