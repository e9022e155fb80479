-- Each way in which a step can arise, with every fact that the scanner's definition tests on that way (scan/specs/Steps.antt):
-- a proof about steps matches on `Found` and opens no definition of a step. Assumes nothing.
use Prim.Native.Nat.{ℕ, ◌+◌, ◌*◌, ◌≤◌, ◌<◌}
use mathlib.Core.Path.{◌≡◌, refl, subst}
use mathlib.Core.Bool.{true, false, ◌&&◌}
use mathlib.Core.List.{List}
use native.Mathlib.Omega.{arith}
use lib.Dec.{ltb, leb, eqb}
use lib.ListN.{length, get_or}
use borrow.Author.Tests.{ltb-true, ltb-false, leb-true, eqb-true}
use Rattle.sequences.proofs.Tests.{cond_if, and_left, and_right}
use Rattle.std.specs.Prelude.{Result, Ok, Err}
use Rattle.token.specs.Faults.{refusal, number_of}
use Rattle.token.specs.declared.Fault.{Fault}
use Rattle.token.specs.declared.Refusal as tokens
use Rattle.token.specs.Tokens.{missing, no_row, open_elements, nested_documents, class_of, shape_of}
use Rattle.token.specs.declared.NameNumber.{NameNumber}
use Rattle.token.specs.declared.QnameNumber.{QnameNumber}
use Rattle.token.specs.declared.Class.{Class}
use Rattle.token.specs.declared.Class.TheVariants as class
use Rattle.number.specs.Number.{number, number_at}
use Rattle.number.specs.declared.Number.{Number}
use Rattle.value.specs.Fields.{text, text_at, field_at}
use Rattle.value.specs.declared.Text.{Text}
use Rattle.value.specs.declared.Field.{Field}
use Rattle.value.specs.declared.Field.TheVariants as field
use Rattle.fields.specs.Fields.{name, name_at, qname, qname_at, header, header_at}
use Rattle.fields.specs.Bounds.{NameWithin}
use Rattle.fields.proofs.References.{name_within}
use Rattle.fields.specs.declared.Name.{Name}
use Rattle.fields.specs.declared.Qname.{Qname}
use Rattle.fields.specs.declared.Header.{Header}
use Rattle.modes.specs.Modes.{content, in_declaration, is, allowed, after_misc, after_value}
use Rattle.scan.specs.Steps.{event_due, text_after, text_step, name_after, name_step, local_after, prefix_after, uri_after, qname_step, extension_after, extension_step, data_after, target_after, pi_step, open_after, element_step, refer_after, attribute_step, value_after, value_step, nest_after, nest_step, class_step, token_step, declared_step, end_step, step_at}
use Rattle.modes.specs.declared.Mode.{Mode}
use Rattle.modes.specs.declared.Mode.TheVariants.{Content, Tag, First, Prolog, AfterDocType, AfterSystem, AfterPublic, Attributes, Cdata, AfterXmlDecl, AfterEncoding}
use Rattle.modes.specs.declared.View.{View}
use Rattle.scan.specs.declared.Room.{Room}
use Rattle.scan.specs.declared.Step.{Step}
use Rattle.scan.specs.declared.Step.TheVariants as step
use Rattle.machine.proofs.Refusals.{Refusal, here, at_end, later, number_refused, text_refused, name_refused, qname_refused, header_refused, field_refused}

-- a token of this class stands at the view's place and may stand there
pub record Stands (doc : List ℕ) (v : View) (c : Class) : Type 0 where
  pub inside : v.at < length doc
  pub outside : in_declaration v.mode ≡ false
  pub class_is : class_of (get_or doc v.at 0) ≡ c
  pub may : allowed c v ≡ true

-- the mode after the text of a token of this class, where the mode was `m`; ENCODING stands in a declaration, below
pub data TextLeads (m : Mode) : Class → Mode → Type 0 where
  xml_decl : TextLeads m class.XmlDecl AfterXmlDecl
  doc_type : TextLeads m class.DocType AfterDocType
  system : TextLeads m class.System AfterSystem
  public : TextLeads m class.Public AfterPublic
  subset : TextLeads m class.Subset Content
  comment : TextLeads m class.Comment (after_misc m)
  cdata : TextLeads m class.Cdata Cdata

-- the two classes of values: of both versions, and of version 2 alone
pub data ValueClass : Class → Type 0 where
  any_version : ValueClass class.Value
  version_2 : ValueClass class.LaterValue

-- the ways in which a step arises; the bounds of its fields are `Fine` (scan/specs/Bounds.antt), its token's code `coded` (Codes.antt)
pub data Found (doc : List ℕ) (v : View) (room : Room) : Result Step tokens.Refusal → Type 0 where
  -- every refusal
  stop : {r : tokens.Refusal} → Refusal (length doc) v.at (number_of r.fault) r.place → Found doc v room (Err r)
  -- the document ends, nothing is open
  ended : length doc ≤ v.at → v.depth ≡ 0 → v.elements ≡ 0 → content v.mode ≡ true → Found doc v room (Ok (step.End (length doc)))
  -- metadata: F0, EF, EA, E9
  name_def : {place units : ℕ} → Stands doc v class.NameDef → text_at 5 doc (v.at + 1) ≡ Ok (text place units) → v.names < room.names
      → Found doc v room (Ok (step.Name place units (place + 2 * units)))
  qname_def : {uri prefix local : NameNumber} {p q next : ℕ} → Stands doc v class.QnameDef → name_at v.known doc (v.at + 1) ≡ Ok (name uri p)
      → name_at v.known doc p ≡ Ok (name prefix q) → name_at v.known doc q ≡ Ok (name local next) → v.qnames < room.qnames
      → Found doc v room (Ok (step.Qname uri prefix local next))
  skip : {size next : ℕ} → Stands doc v class.Extension → number_at 5 doc (v.at + 1) ≡ Ok (number size next) → next + size ≤ length doc
      → Found doc v room (Ok (step.Skip (next + size)))
  flush : Stands doc v class.Flush → Found doc v room (Ok (step.Flush (v.at + 1)))
  -- a token with a text: FE, FC, FB, FA, F9, F3, F2
  texted : {c : Class} {place units : ℕ} {mode : Mode} → Stands doc v c → TextLeads v.mode c mode → text_at 5 doc (v.at + 1) ≡ Ok (text place units)
      → v.events < room.events → Found doc v room (Ok (step.Event (get_or doc v.at 0) place units mode (place + 2 * units)))
  -- in an XML declaration: FD, or the standalone byte
  encoding : {place units : ℕ} → v.at < length doc → v.mode ≡ AfterXmlDecl → get_or doc v.at 0 ≡ 0xFD → text_at 5 doc (v.at + 1) ≡ Ok (text place units)
      → v.events < room.events → Found doc v room (Ok (step.Event (get_or doc v.at 0) place units AfterEncoding (place + 2 * units)))
  standalone : v.at < length doc → in_declaration v.mode ≡ true → get_or doc v.at 0 ≤ 2 → v.events < room.events
      → Found doc v room (Ok (step.Event 0 (get_or doc v.at 0) 0 Prolog (v.at + 1)))
  -- a list or a section closes: F5, F1
  end_attributes : Stands doc v class.EndAttributes → v.events < room.events → Found doc v room (Ok (step.Event (get_or doc v.at 0) 0 0 Content (v.at + 1)))
  cdata_end : Stands doc v class.CdataEnd → v.events < room.events → Found doc v room (Ok (step.Event (get_or doc v.at 0) 0 0 Content (v.at + 1)))
  -- a value with a payload, and one that refers to a qname
  value : {c : Class} {place size : ℕ} → Stands doc v c → ValueClass c → field_at (shape_of (get_or doc v.at 0)) doc v.at ≡ Ok (field.Payload place size)
      → v.events < room.events → Found doc v room (Ok (step.Event (get_or doc v.at 0) place size (after_value v.mode) (place + size)))
  qname_value : {c : Class} {number : QnameNumber} {next : ℕ} → Stands doc v c → ValueClass c
      → field_at (shape_of (get_or doc v.at 0)) doc v.at ≡ Ok (field.Reference number next) → 1 ≤ number.0 → number.0 ≤ v.qknown
      → v.events < room.events → Found doc v room (Ok (step.Refer (get_or doc v.at 0) number (after_value v.mode) next))
  -- an attribute, an element, its end: F6, F8, F7
  attribute : {number : QnameNumber} {next : ℕ} → Stands doc v class.Attribute → qname_at v.qknown doc (v.at + 1) ≡ Ok (qname number next)
      → v.events < room.events → Found doc v room (Ok (step.Refer 0xF6 number Attributes next))
  element : {number : QnameNumber} {next : ℕ} → Stands doc v class.Element → v.opened < open_elements
      → qname_at v.qknown doc (v.at + 1) ≡ Ok (qname number next) → v.events < room.events → Found doc v room (Ok (step.Open number next))
  close : Stands doc v class.EndElement → v.events < room.events → Found doc v room (Ok (step.Close (v.at + 1)))
  -- a PI: F4
  pi : {target : NameNumber} {start place units : ℕ} → Stands doc v class.Pi → name_at v.known doc (v.at + 1) ≡ Ok (name target start)
      → text_at 5 doc start ≡ Ok (text place units) → v.events < room.events → Found doc v room (Ok (step.Pi target start (place + 2 * units)))
  -- a nested document and its end: EC, EB
  nest : {version next : ℕ} → Stands doc v class.Nest → v.depth < nested_documents → header_at doc (v.at + 1) ≡ Ok (header version next)
      → v.events < room.events → Found doc v room (Ok (step.Nest version next))
  leave : Stands doc v class.EndNest → v.events < room.events → Found doc v room (Ok (step.Leave (v.at + 1)))

-- modes are told apart by their numbers
is_declared : (m : Mode) → is m AfterXmlDecl ≡ true → m ≡ AfterXmlDecl
is_declared Content e = cc
is_declared Tag e = cc
is_declared First e = cc
is_declared Prolog e = cc
is_declared AfterDocType e = cc
is_declared AfterSystem e = cc
is_declared AfterPublic e = cc
is_declared Attributes e = cc
is_declared Cdata e = cc
is_declared AfterXmlDecl e = refl
is_declared AfterEncoding e = cc

-- the place after a name's number lies inside the document
name_past : (known : ℕ) (doc : List ℕ) (at : ℕ) {n : NameNumber} {next : ℕ} → name_at known doc at ≡ Ok (name n next) → (at < next) × (next ≤ length doc)
name_past known doc at e = let w = subst (λ (x : Result Name tokens.Refusal). NameWithin (length doc) at known x) e (name_within known doc at) in (w.0, w.1)

module _ (doc : List ℕ) (v : View) (room : Room) (inside : v.at < length doc) where
  past : v.at + 1 ≤ length doc
  past = omega arith

  -- a token is refused, or a field of it
  refuse : {fault : Fault} → missing ≤ number_of fault → number_of fault ≤ no_row → Found doc v room (Err (refusal fault v.at))
  refuse s k = stop (here (omega arith) s k)

  refuse_field : {from : ℕ} {r : tokens.Refusal} → v.at < from → from ≤ length doc → Refusal (length doc) from (number_of r.fault) r.place → Found doc v room (Err r)
  refuse_field l h r = stop (later (omega arith) h r)

  refuse_first : {r : tokens.Refusal} → Refusal (length doc) (v.at + 1) (number_of r.fault) r.place → Found doc v room (Err r)
  refuse_first r = refuse_field (omega arith) past r

  -- a row is due: 9, or the step with its room
  due : (on : Step) → (v.events < room.events → Found doc v room (Ok on)) → Found doc v room (event_due v room on)
  unfolding event_due
  due on f = cond_if (Found doc v room) (ltb v.events room.events) (Ok on) _ (λ t. f (ltb-true _ _ t)) (λ t. refuse (omega arith) (omega arith))

  text_found : (token : ℕ) (mode : Mode) (t : Result Text tokens.Refusal) → text_at 5 doc (v.at + 1) ≡ t
      → ((place units : ℕ) → text_at 5 doc (v.at + 1) ≡ Ok (text place units) → v.events < room.events
      → Found doc v room (Ok (step.Event token place units mode (place + 2 * units))))
      → Found doc v room (text_after v room token mode t)
  text_found token mode (Ok t) e k = due _ (k t.place t.units e)
  text_found token mode (Err x) e k = refuse_first (text_refused 5 doc (v.at + 1) past e)

  text_step_fact : {c : Class} {mode : Mode} → Stands doc v c → TextLeads v.mode c mode → Found doc v room (text_step doc v room (get_or doc v.at 0) mode)
  unfolding text_step
  text_step_fact {mode = mode} s l = text_found (get_or doc v.at 0) mode (text_at 5 doc (v.at + 1)) refl (λ place units e r. texted s l e r)

  name_found : Stands doc v class.NameDef → (t : Result Text tokens.Refusal) → text_at 5 doc (v.at + 1) ≡ t → Found doc v room (name_after v room t)
  name_found s (Ok t) e = cond_if (Found doc v room) (ltb v.names room.names) _ _ (λ t. name_def s e (ltb-true _ _ t)) (λ t. refuse (omega arith) (omega arith))
  name_found s (Err x) e = refuse_first (text_refused 5 doc (v.at + 1) past e)

  local_found : Stands doc v class.QnameDef → (uri prefix : NameNumber) (p q : ℕ) → name_at v.known doc (v.at + 1) ≡ Ok (name uri p)
      → name_at v.known doc p ≡ Ok (name prefix q) → (n : Result Name tokens.Refusal) → name_at v.known doc q ≡ n → Found doc v room (local_after v room uri prefix n)
  local_found s uri prefix p q a b (Ok n) e =
      cond_if (Found doc v room) (ltb v.qnames room.qnames) _ _ (λ t. qname_def s a b e (ltb-true _ _ t)) (λ t. refuse (omega arith) (omega arith))
  local_found s uri prefix p q a b (Err x) e = let m = name_past v.known doc (v.at + 1) a in let n = name_past v.known doc p b in refuse_field (omega arith) n.1 (name_refused v.known doc q n.1 e)

  prefix_found : Stands doc v class.QnameDef → (uri : NameNumber) (p : ℕ) → name_at v.known doc (v.at + 1) ≡ Ok (name uri p)
      → (n : Result Name tokens.Refusal) → name_at v.known doc p ≡ n → Found doc v room (prefix_after doc v room uri n)
  prefix_found s uri p a (Ok n) e = local_found s uri n.number p n.next a e (name_at v.known doc n.next) refl
  prefix_found s uri p a (Err x) e = let m = name_past v.known doc (v.at + 1) a in refuse_field (omega arith) m.1 (name_refused v.known doc p m.1 e)

  uri_found : Stands doc v class.QnameDef → (n : Result Name tokens.Refusal) → name_at v.known doc (v.at + 1) ≡ n → Found doc v room (uri_after doc v room n)
  uri_found s (Ok n) e = prefix_found s n.number n.next e (name_at v.known doc n.next) refl
  uri_found s (Err x) e = refuse_first (name_refused v.known doc (v.at + 1) past e)

  extension_found : Stands doc v class.Extension → (n : Result Number tokens.Refusal) → number_at 5 doc (v.at + 1) ≡ n → Found doc v room (extension_after doc n)
  extension_found s (Ok n) e =
      cond_if (Found doc v room) (leb (n.next + n.value) (length doc)) _ _ (λ t. skip s e (leb-true _ _ t)) (λ t. stop at_end)
  extension_found s (Err x) e = refuse_first (number_refused 5 doc (v.at + 1) past e)

  data_found : Stands doc v class.Pi → (target : NameNumber) (start : ℕ) → name_at v.known doc (v.at + 1) ≡ Ok (name target start)
      → (t : Result Text tokens.Refusal) → text_at 5 doc start ≡ t → Found doc v room (data_after v room target start t)
  data_found s target start a (Ok t) e = due _ (λ r. pi s a e r)
  data_found s target start a (Err x) e = let m = name_past v.known doc (v.at + 1) a in refuse_field (omega arith) m.1 (text_refused 5 doc start m.1 e)

  target_found : Stands doc v class.Pi → (n : Result Name tokens.Refusal) → name_at v.known doc (v.at + 1) ≡ n → Found doc v room (target_after doc v room n)
  target_found s (Ok n) e = data_found s n.number n.next e (text_at 5 doc n.next) refl
  target_found s (Err x) e = refuse_first (name_refused v.known doc (v.at + 1) past e)

  open_found : Stands doc v class.Element → v.opened < open_elements → (n : Result Qname tokens.Refusal) → qname_at v.qknown doc (v.at + 1) ≡ n
      → Found doc v room (open_after v room n)
  open_found s o (Ok n) e = due _ (λ r. element s o e r)
  open_found s o (Err x) e = refuse_first (qname_refused v.qknown doc (v.at + 1) past e)

  attribute_found : Stands doc v class.Attribute → (n : Result Qname tokens.Refusal) → qname_at v.qknown doc (v.at + 1) ≡ n → Found doc v room (refer_after v room n)
  attribute_found s (Ok n) e = due _ (λ r. attribute s e r)
  attribute_found s (Err x) e = refuse_first (qname_refused v.qknown doc (v.at + 1) past e)

  value_found : {c : Class} → Stands doc v c → ValueClass c → (f : Result Field tokens.Refusal) → field_at (shape_of (get_or doc v.at 0)) doc v.at ≡ f
      → Found doc v room (value_after v room (get_or doc v.at 0) f)
  value_found s k (Ok (field.Payload place size)) e = due _ (λ r. value s k e r)
  value_found s k (Ok (field.Reference number next)) e =
      cond_if (Found doc v room) (leb 1 number.0 && leb number.0 v.qknown) _ _
      (λ t. due _ (λ r. qname_value s k e (leb-true _ _ (and_left (leb 1 number.0) _ t)) (leb-true _ _ (and_right (leb 1 number.0) _ t)) r))
      (λ t. refuse_first (here past (omega arith) (omega arith)))
  value_found s k (Err x) e = stop (field_refused doc v.at inside (shape_of (get_or doc v.at 0)) e)

  nest_found : Stands doc v class.Nest → v.depth < nested_documents → (h : Result Header tokens.Refusal) → header_at doc (v.at + 1) ≡ h → Found doc v room (nest_after v room h)
  nest_found s d (Ok h) e = due _ (λ r. nest s d e r)
  nest_found s d (Err x) e = refuse_first (header_refused doc (v.at + 1) e)

  class_found : (c : Class) → Stands doc v c → Found doc v room (class_step c doc v room (get_or doc v.at 0))
  unfolding class_step element_step attribute_step name_step qname_step extension_step pi_step nest_step value_step
  class_found class.Unknown s = refuse (omega arith) (omega arith)
  class_found class.Value s = value_found s any_version (field_at (shape_of (get_or doc v.at 0)) doc v.at) refl
  class_found class.LaterValue s = value_found s version_2 (field_at (shape_of (get_or doc v.at 0)) doc v.at) refl
  class_found class.XmlDecl s = text_step_fact s xml_decl
  class_found class.Encoding s = refuse (omega arith) (omega arith)
  class_found class.DocType s = text_step_fact s doc_type
  class_found class.System s = text_step_fact s system
  class_found class.Public s = text_step_fact s public
  class_found class.Subset s = text_step_fact s subset
  class_found class.Element s =
      cond_if (Found doc v room) (ltb v.opened open_elements) _ _
      (λ t. open_found s (ltb-true _ _ t) (qname_at v.qknown doc (v.at + 1)) refl) (λ t. refuse (omega arith) (omega arith))
  class_found class.EndElement s = due _ (λ r. close s r)
  class_found class.Attribute s = attribute_found s (qname_at v.qknown doc (v.at + 1)) refl
  class_found class.EndAttributes s = due _ (λ r. end_attributes s r)
  class_found class.Pi s = target_found s (name_at v.known doc (v.at + 1)) refl
  class_found class.Comment s = text_step_fact s comment
  class_found class.Cdata s = text_step_fact s cdata
  class_found class.CdataEnd s = due _ (λ r. cdata_end s r)
  class_found class.NameDef s = name_found s (text_at 5 doc (v.at + 1)) refl
  class_found class.QnameDef s = uri_found s (name_at v.known doc (v.at + 1)) refl
  class_found class.Nest s =
      cond_if (Found doc v room) (ltb v.depth nested_documents) _ _
      (λ t. nest_found s (ltb-true _ _ t) (header_at doc (v.at + 1)) refl) (λ t. refuse (omega arith) (omega arith))
  class_found class.EndNest s = due _ (λ r. leave s r)
  class_found class.Extension s = extension_found s (number_at 5 doc (v.at + 1)) refl
  class_found class.Flush s = flush s

  token_found : in_declaration v.mode ≡ false → Found doc v room (token_step doc v room (get_or doc v.at 0))
  unfolding token_step
  token_found d =
      cond_if (Found doc v room) (allowed (class_of (get_or doc v.at 0)) v) _ _
      (λ t. class_found (class_of (get_or doc v.at 0)) (record { inside = inside; outside = d; class_is = refl; may = t })) (λ t. refuse (omega arith) (omega arith))

  declared_found : in_declaration v.mode ≡ true → Found doc v room (declared_step doc v room (get_or doc v.at 0))
  unfolding declared_step text_step
  declared_found d =
      let b = get_or doc v.at 0 in
      cond_if (Found doc v room) (is v.mode AfterXmlDecl && eqb b 0xFD) _ _
      (λ t. text_found b AfterEncoding (text_at 5 doc (v.at + 1)) refl
      (λ place units e r. encoding inside (is_declared v.mode (and_left (is v.mode AfterXmlDecl) _ t)) (eqb-true _ _ (and_right (is v.mode AfterXmlDecl) _ t)) e r))
      (λ t. cond_if (Found doc v room) (leb b 2) _ _ (λ u. due _ (λ r. standalone inside d (leb-true _ _ u) r)) (λ u. refuse (omega arith) (omega arith)))

module _ (doc : List ℕ) (v : View) (room : Room) where
  end_found : length doc ≤ v.at → (eqb v.depth 0 && eqb v.elements 0 && content v.mode) ≡ true → Found doc v room (Ok (step.End (length doc)))
  end_found l u =
      let a = and_left (eqb v.depth 0 && eqb v.elements 0) _ u in
      ended l (eqb-true _ _ (and_left (eqb v.depth 0) _ a)) (eqb-true _ _ (and_right (eqb v.depth 0) _ a))
      (and_right (eqb v.depth 0 && eqb v.elements 0) _ u)

  -- what a step is
  pub found : Found doc v room (step_at doc v room)
  unfolding step_at end_step
  found =
      cond_if (Found doc v room) (ltb v.at (length doc)) _ _
      (λ t. let h = ltb-true _ _ t in cond_if (Found doc v room) (in_declaration v.mode) _ _ (λ u. declared_found doc v room h u) (λ u. token_found doc v room h u))
      (λ t. cond_if (Found doc v room) (eqb v.depth 0 && eqb v.elements 0 && content v.mode) _ _ (λ u. end_found (ltb-false _ _ t) u) (λ u. stop at_end))

  -- the same of a step that is known to be the one found
  pub found_step : {x : Result Step tokens.Refusal} → x ≡ step_at doc v room → Found doc v room x
  found_step e = rw e found
