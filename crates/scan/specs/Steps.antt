-- What stands at a place and what refuses it, in 01's order: 5, then 8, then its fields one by one (2, 4, 6, and 3 inside
-- a nested header), then 7, then 9 when its row is due (01, "Answer numbers", "Document rules", "Rows").
use Rattle.std.specs.Prelude.{ℕ, ◌+◌, ◌*◌, cond, ◌&&◌, List, ltb, leb, eqb, length, get_or, Result, Ok, Err}
use Rattle.token.specs.Tokens.{mb32, open_elements, nested_documents, class_of, shape_of, ATTRIBUTE_TOKEN, ENCODING_TOKEN}
use Rattle.token.specs.Faults.{refusal}
use Rattle.token.specs.declared.Fault.TheVariants.{Missing, BadToken, NotDefined, BadValue, TooDeep, NoRow}
use Rattle.token.specs.declared.Refusal.{Refusal}
use Rattle.token.specs.declared.NameNumber.{NameNumber}
use Rattle.token.specs.declared.Class.{Class}
use Rattle.token.specs.declared.Class.TheVariants as class
use Rattle.number.specs.Number.{number_at}
use Rattle.number.specs.declared.Number.{Number}
use Rattle.value.specs.Fields.{text_at, field_at}
use Rattle.value.specs.declared.Text.{Text}
use Rattle.value.specs.declared.Field.{Field}
use Rattle.value.specs.declared.Field.TheVariants as field
use Rattle.fields.specs.Fields.{name_at, defined_qname, qname_at, header_at}
use Rattle.fields.specs.declared.Name.{Name}
use Rattle.fields.specs.declared.Qname.{Qname}
use Rattle.fields.specs.declared.Header.{Header}
use Rattle.modes.specs.Modes.{content, in_declaration, is, allowed, after_misc, after_value}
use Rattle.modes.specs.declared.Mode.{Mode}
use Rattle.modes.specs.declared.Mode.TheVariants.{Content, Prolog, AfterDocType, AfterSystem, AfterPublic, Attributes, Cdata, AfterXmlDecl, AfterEncoding}
use Rattle.modes.specs.declared.View.{View}
use Rattle.scan.specs.declared.Room.{Room}
use Rattle.scan.specs.declared.Step.{Step}
use Rattle.scan.specs.declared.Step.TheVariants as step

-- 9 when a row is due and none is left; its place is the token's
unfoldable pub event_due : View → Room → Step → Result Step Refusal
event_due v room on = cond (ltb v.events room.events) (Ok on) (Err (refusal NoRow v.at))

-- ---- tokens with a text: FE, FD, FC, FB, FA, F9, F3, F2

abbrev pub text_after : View → Room → ℕ → Mode → Result Text Refusal → Result Step Refusal
text_after v room token mode (Ok t) = event_due v room (step.Event token t.place t.units mode (t.place + 2 * t.units))
text_after v room token mode (Err r) = Err r

unfoldable pub text_step : List ℕ → View → Room → ℕ → Mode → Result Step Refusal
text_step doc v room token mode = text_after v room token mode (text_at mb32 doc (v.at + 1))

-- ---- metadata: F0, EF, EA

abbrev pub name_after : View → Room → Result Text Refusal → Result Step Refusal
name_after v room (Ok t) =
    cond (ltb v.names room.names) (Ok (step.Name t.place t.units (t.place + 2 * t.units))) (Err (refusal NoRow v.at))
name_after v room (Err r) = Err r

unfoldable pub name_step : List ℕ → View → Room → Result Step Refusal
name_step doc v room = name_after v room (text_at mb32 doc (v.at + 1))

abbrev pub local_after : View → Room → NameNumber → NameNumber → Result Name Refusal → Result Step Refusal
local_after v room uri prefix (Ok n) =
    cond (ltb v.qnames room.qnames) (Ok (step.Qname uri prefix n.number n.next)) (Err (refusal NoRow v.at))
local_after v room uri prefix (Err r) = Err r

abbrev pub prefix_after : List ℕ → View → Room → NameNumber → Result Name Refusal → Result Step Refusal
prefix_after doc v room uri (Ok n) = local_after v room uri n.number (name_at v.known doc n.next)
prefix_after doc v room uri (Err r) = Err r

abbrev pub uri_after : List ℕ → View → Room → Result Name Refusal → Result Step Refusal
uri_after doc v room (Ok n) = prefix_after doc v room n.number (name_at v.known doc n.next)
uri_after doc v room (Err r) = Err r

unfoldable pub qname_step : List ℕ → View → Room → Result Step Refusal
qname_step doc v room = uri_after doc v room (name_at v.known doc (v.at + 1))

abbrev pub extension_after : List ℕ → Result Number Refusal → Result Step Refusal
extension_after doc (Ok n) = cond (leb (n.next + n.value) (length doc)) (Ok (step.Skip (n.next + n.value))) (Err (refusal Missing (length doc)))
extension_after doc (Err r) = Err r

unfoldable pub extension_step : List ℕ → View → Result Step Refusal
extension_step doc v = extension_after doc (number_at mb32 doc (v.at + 1))

-- ---- PIs: a name, then a text

abbrev pub data_after : View → Room → NameNumber → ℕ → Result Text Refusal → Result Step Refusal
data_after v room target start (Ok t) = event_due v room (step.Pi target start (t.place + 2 * t.units))
data_after v room target start (Err r) = Err r

abbrev pub target_after : List ℕ → View → Room → Result Name Refusal → Result Step Refusal
target_after doc v room (Ok n) = data_after v room n.number n.next (text_at mb32 doc n.next)
target_after doc v room (Err r) = Err r

unfoldable pub pi_step : List ℕ → View → Room → Result Step Refusal
pi_step doc v room = target_after doc v room (name_at v.known doc (v.at + 1))

-- ---- elements and attributes

abbrev pub open_after : View → Room → Result Qname Refusal → Result Step Refusal
open_after v room (Ok n) = event_due v room (step.Open n.number n.next)
open_after v room (Err r) = Err r

unfoldable pub element_step : List ℕ → View → Room → Result Step Refusal
element_step doc v room =
    cond (ltb v.opened open_elements) (open_after v room (qname_at v.qknown doc (v.at + 1))) (Err (refusal TooDeep v.at))

abbrev pub refer_after : View → Room → Result Qname Refusal → Result Step Refusal
refer_after v room (Ok n) = event_due v room (step.Refer ATTRIBUTE_TOKEN n.number Attributes n.next)
refer_after v room (Err r) = Err r

unfoldable pub attribute_step : List ℕ → View → Room → Result Step Refusal
attribute_step doc v room = refer_after v room (qname_at v.qknown doc (v.at + 1))

-- ---- values; 8C refers to a qname

abbrev pub value_after : View → Room → ℕ → Result Field Refusal → Result Step Refusal
value_after v room token (Ok (field.Payload place size)) = event_due v room (step.Event token place size (after_value v.mode) (place + size))
value_after v room token (Ok (field.Reference number next)) =
    cond (defined_qname v.qknown number.0) (event_due v room (step.Refer token number (after_value v.mode) next))
    (Err (refusal NotDefined (v.at + 1)))
value_after v room token (Err r) = Err r

unfoldable pub value_step : List ℕ → View → Room → ℕ → Result Step Refusal
value_step doc v room token = value_after v room token (field_at (shape_of token) doc v.at)

-- ---- nested documents

abbrev pub nest_after : View → Room → Result Header Refusal → Result Step Refusal
nest_after v room (Ok h) = event_due v room (step.Nest h.version h.next)
nest_after v room (Err r) = Err r

unfoldable pub nest_step : List ℕ → View → Room → Result Step Refusal
nest_step doc v room =
    cond (ltb v.depth nested_documents) (nest_after v room (header_at doc (v.at + 1))) (Err (refusal TooDeep v.at))

-- ---- by class

unfoldable pub class_step : Class → List ℕ → View → Room → ℕ → Result Step Refusal
class_step class.Unknown doc v room token = Err (refusal BadToken v.at)
class_step class.Value doc v room token = value_step doc v room token
class_step class.LaterValue doc v room token = value_step doc v room token
class_step class.XmlDecl doc v room token = text_step doc v room token AfterXmlDecl
class_step class.Encoding doc v room token = Err (refusal BadToken v.at)
class_step class.DocType doc v room token = text_step doc v room token AfterDocType
class_step class.System doc v room token = text_step doc v room token AfterSystem
class_step class.Public doc v room token = text_step doc v room token AfterPublic
class_step class.Subset doc v room token = text_step doc v room token Content
class_step class.Element doc v room token = element_step doc v room
class_step class.EndElement doc v room token = event_due v room (step.Close (v.at + 1))
class_step class.Attribute doc v room token = attribute_step doc v room
class_step class.EndAttributes doc v room token = event_due v room (step.Event token 0 0 Content (v.at + 1))
class_step class.Pi doc v room token = pi_step doc v room
class_step class.Comment doc v room token = text_step doc v room token (after_misc v.mode)
class_step class.Cdata doc v room token = text_step doc v room token Cdata
class_step class.CdataEnd doc v room token = event_due v room (step.Event token 0 0 Content (v.at + 1))
class_step class.NameDef doc v room token = name_step doc v room
class_step class.QnameDef doc v room token = qname_step doc v room
class_step class.Nest doc v room token = nest_step doc v room
class_step class.EndNest doc v room token = event_due v room (step.Leave (v.at + 1))
class_step class.Extension doc v room token = extension_step doc v
class_step class.Flush doc v room token = Ok (step.Flush (v.at + 1))

unfoldable pub token_step : List ℕ → View → Room → ℕ → Result Step Refusal
token_step doc v room token =
    cond (allowed (class_of token) v) (class_step (class_of token) doc v room token) (Err (refusal BadToken v.at))

-- in an XML declaration: ENCODING after the version's text, or the standalone byte; every other byte is 7
unfoldable pub declared_step : List ℕ → View → Room → ℕ → Result Step Refusal
declared_step doc v room byte =
    cond (is v.mode AfterXmlDecl && eqb byte ENCODING_TOKEN) (text_step doc v room byte AfterEncoding)
    (cond (leb byte 2) (event_due v room (step.Event 0 byte 0 Prolog (v.at + 1))) (Err (refusal BadValue v.at)))

-- the input may end only at root of the outer document, nothing open
unfoldable pub end_step : ℕ → View → Result Step Refusal
end_step size v = cond (eqb v.depth 0 && eqb v.elements 0 && content v.mode) (Ok (step.End size)) (Err (refusal Missing size))

-- what stands at the view's place
unfoldable pub step_at : List ℕ → View → Room → Result Step Refusal
step_at doc v room =
    cond (ltb v.at (length doc))
    (cond (in_declaration v.mode) (declared_step doc v room (get_or doc v.at 0)) (token_step doc v room (get_or doc v.at 0)))
    (end_step (length doc) v)
