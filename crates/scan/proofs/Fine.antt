-- What the scanner finds lies inside the document, and its row, if one is due, has room. Assumes nothing.
use Prim.Native.Nat.{ℕ, ◌+◌, ◌≤◌, ◌<◌}
use mathlib.Core.Path.{◌≡◌, sym, subst}
use mathlib.Core.Bool.{true, ◌&&◌}
use mathlib.Core.List.{List}
use native.Mathlib.Omega.{arith}
use lib.Dec.{ltb, leb, eqb}
use lib.ListN.{length, get_or}
use borrow.Author.Tests.{ltb-true, leb-true, eqb-true}
use Rattle.sequences.proofs.Tests.{cond_if, and_left, and_right}
use Rattle.token.specs.Tokens.{open_elements, nested_documents, class_of, shape_of}
use Rattle.std.specs.Prelude.{Result, Ok, Err}
use Rattle.token.specs.declared.Refusal.{Refusal}
use Rattle.token.specs.declared.NameNumber.{NameNumber}
use Rattle.token.specs.declared.Class.{Class}
use Rattle.token.specs.declared.Class.TheVariants as class
use Rattle.number.specs.Number.{number_at}
use Rattle.number.specs.Bounds.{Within}
use Rattle.number.specs.declared.Number.{Number}
use Rattle.value.specs.Fields.{text_at, field_at}
use Rattle.value.specs.Bounds.{Lies, Inside}
use Rattle.value.specs.declared.Text.{Text}
use Rattle.value.specs.declared.Field.{Field}
use Rattle.value.specs.declared.Field.TheVariants as field
use Rattle.fields.specs.Fields.{name_at, qname_at, header_at}
use Rattle.fields.specs.Bounds.{NameWithin, QnameWithin, HeaderWithin}
use Rattle.fields.specs.declared.Name.{Name}
use Rattle.fields.specs.declared.Qname.{Qname}
use Rattle.fields.specs.declared.Header.{Header}
use Rattle.modes.specs.Modes.{content, in_declaration, is, allowed, after_misc}
use Rattle.scan.specs.Steps.{event_due, text_after, text_step, name_after, name_step, local_after, prefix_after, uri_after, qname_step, extension_after, extension_step, data_after, target_after, pi_step, open_after, element_step, refer_after, attribute_step, value_after, value_step, nest_after, nest_step, class_step, token_step, declared_step, end_step, step_at}
use Rattle.modes.specs.declared.Mode.{Mode}
use Rattle.modes.specs.declared.Mode.TheVariants.{Content, AfterDocType, AfterSystem, AfterPublic, Cdata, AfterXmlDecl, AfterEncoding}
use Rattle.modes.specs.declared.View.{View}
use Rattle.scan.specs.declared.Room.{Room}
use Rattle.scan.specs.declared.Step.{Step}
use Rattle.scan.specs.declared.Step.TheVariants as step
use Rattle.number.proofs.Within.{number_within}
use Rattle.value.proofs.Fields.{text_lies, field_inside}
use Rattle.fields.proofs.References.{name_within, qname_within}
use Rattle.fields.proofs.Headers.{header_within}
use Rattle.scan.specs.Bounds.{Fine, FineIf}

module _ (size : ℕ) (v : View) (room : Room) where
  due_fine : (on : Step) → (v.events < room.events → Fine size v room on) → FineIf size v room (event_due v room on)
  unfolding event_due
  due_fine on f = cond_if (FineIf size v room) (ltb v.events room.events) (Ok on) _ (λ t. f (ltb-true _ _ t)) (λ t. tt)

  text_fine : (token : ℕ) (mode : Mode) (t : Result Text Refusal) → Lies size (v.at + 1) t → FineIf size v room (text_after v room token mode t)
  text_fine token mode (Ok t) h = due_fine _ (λ r. omega arith)
  text_fine token mode (Err r) h = tt

  name_fine : (t : Result Text Refusal) → Lies size (v.at + 1) t → FineIf size v room (name_after v room t)
  name_fine (Ok t) h =
      cond_if (FineIf size v room) (ltb v.names room.names) _ _ (λ t. let r : v.names < room.names = ltb-true _ _ t in omega arith) (λ t. tt)
  name_fine (Err r) h = tt

  local_fine : (uri prefix : NameNumber) (at : ℕ) (n : Result Name Refusal) → v.at < at → uri.0 ≤ v.known → prefix.0 ≤ v.known
      → NameWithin size at v.known n → FineIf size v room (local_after v room uri prefix n)
  local_fine uri prefix at (Ok n) a u p h =
      cond_if (FineIf size v room) (ltb v.qnames room.qnames) _ _ (λ t. let r : v.qnames < room.qnames = ltb-true _ _ t in omega arith) (λ t. tt)
  local_fine uri prefix at (Err r) a u p h = tt

  data_fine : (target : NameNumber) (start : ℕ) (t : Result Text Refusal) → v.at < start → target.0 ≤ v.known → Lies size start t → FineIf size v room (data_after v room target start t)
  data_fine target start (Ok t) a k h = due_fine _ (λ r. omega arith)
  data_fine target start (Err r) a k h = tt

  open_fine : v.opened < 64 → (n : Result Qname Refusal) → QnameWithin size (v.at + 1) v.qknown n → FineIf size v room (open_after v room n)
  open_fine o (Ok n) h = due_fine _ (λ r. omega arith)
  open_fine o (Err r) h = tt

  attribute_fine : (n : Result Qname Refusal) → QnameWithin size (v.at + 1) v.qknown n → FineIf size v room (refer_after v room n)
  attribute_fine (Ok n) h = due_fine _ (λ r. omega arith)
  attribute_fine (Err r) h = tt

  value_fine : (token : ℕ) (f : Result Field Refusal) → Inside size v.at f → FineIf size v room (value_after v room token f)
  value_fine token (Ok (field.Payload place n)) h = due_fine _ (λ r. omega arith)
  value_fine token (Ok (field.Reference number next)) h =
      cond_if (FineIf size v room) (leb 1 number.0 && leb number.0 v.qknown) _ _
      (λ t. let a : 1 ≤ number.0 = leb-true _ _ (and_left (leb 1 number.0) _ t) in
      let b : number.0 ≤ v.qknown = leb-true _ _ (and_right (leb 1 number.0) _ t) in
      due_fine _ (λ r. omega arith))
      (λ t. tt)
  value_fine token (Err r) h = tt

  nest_fine : v.depth < 8 → (h : Result Header Refusal) → HeaderWithin size (v.at + 1) h → FineIf size v room (nest_after v room h)
  nest_fine d (Ok n) h = due_fine _ (λ r. omega arith)
  nest_fine d (Err r) h = tt

module _ (doc : List ℕ) (v : View) (room : Room) where
  prefix_fine : (uri : NameNumber) (at : ℕ) (n : Result Name Refusal) → v.at < at → uri.0 ≤ v.known → NameWithin (length doc) at v.known n
      → FineIf (length doc) v room (prefix_after doc v room uri n)
  prefix_fine uri at (Ok n) a u h =
      local_fine (length doc) v room uri n.number n.next (name_at v.known doc n.next) (omega arith) u h.2 (name_within v.known doc n.next)
  prefix_fine uri at (Err r) a u h = tt

  uri_fine : (n : Result Name Refusal) → NameWithin (length doc) (v.at + 1) v.known n → FineIf (length doc) v room (uri_after doc v room n)
  uri_fine (Ok n) h = prefix_fine n.number n.next (name_at v.known doc n.next) (omega arith) h.2 (name_within v.known doc n.next)
  uri_fine (Err r) h = tt

  target_fine : (n : Result Name Refusal) → NameWithin (length doc) (v.at + 1) v.known n → FineIf (length doc) v room (target_after doc v room n)
  target_fine (Ok n) h = data_fine (length doc) v room n.number n.next (text_at 5 doc n.next) (omega arith) h.2 (text_lies 5 doc n.next)
  target_fine (Err r) h = tt

  extension_fine : (n : Result Number Refusal) → Within (length doc) (v.at + 1) n → FineIf (length doc) v room (extension_after doc n)
  extension_fine (Ok n) h =
      cond_if (FineIf (length doc) v room) (leb (n.next + n.value) (length doc)) _ _ (λ t. let r : n.next + n.value ≤ length doc = leb-true _ _ t in omega arith) (λ t. tt)
  extension_fine (Err r) h = tt

  text_step_fine : (token : ℕ) (mode : Mode) → FineIf (length doc) v room (text_step doc v room token mode)
  unfolding text_step
  text_step_fine token mode = text_fine (length doc) v room token mode (text_at 5 doc (v.at + 1)) (text_lies 5 doc (v.at + 1))

  value_step_fine : (token : ℕ) → FineIf (length doc) v room (value_step doc v room token)
  unfolding value_step
  value_step_fine token = value_fine (length doc) v room token (field_at (shape_of token) doc v.at) (field_inside (shape_of token) doc v.at)

  module _ (here : v.at < length doc) where
    bare : (token : ℕ) → FineIf (length doc) v room (event_due v room (step.Event token 0 0 Content (v.at + 1)))
    bare token = due_fine (length doc) v room _ (λ r. omega arith)

    class_fine : (c : Class) (token : ℕ) → allowed c v ≡ true → FineIf (length doc) v room (class_step c doc v room token)
    unfolding class_step element_step attribute_step name_step qname_step extension_step pi_step nest_step
    class_fine class.Unknown token a = tt
    class_fine class.Value token a = value_step_fine token
    class_fine class.LaterValue token a = value_step_fine token
    class_fine class.XmlDecl token a = text_step_fine token AfterXmlDecl
    class_fine class.Encoding token a = tt
    class_fine class.DocType token a = text_step_fine token AfterDocType
    class_fine class.System token a = text_step_fine token AfterSystem
    class_fine class.Public token a = text_step_fine token AfterPublic
    class_fine class.Subset token a = text_step_fine token Content
    class_fine class.Element token a =
        cond_if (FineIf (length doc) v room) (ltb v.opened open_elements) _ _
        (λ t. open_fine (length doc) v room (ltb-true _ _ t) (qname_at v.qknown doc (v.at + 1)) (qname_within v.qknown doc (v.at + 1)))
        (λ t. tt)
    class_fine class.EndElement token a =
        let e : 0 < v.elements = ltb-true _ _ (and_right (content v.mode) _ a) in
        due_fine (length doc) v room _ (λ r. omega arith)
    class_fine class.Attribute token a = attribute_fine (length doc) v room (qname_at v.qknown doc (v.at + 1)) (qname_within v.qknown doc (v.at + 1))
    class_fine class.EndAttributes token a = bare token
    class_fine class.Pi token a = target_fine (name_at v.known doc (v.at + 1)) (name_within v.known doc (v.at + 1))
    class_fine class.Comment token a = text_step_fine token (after_misc v.mode)
    class_fine class.Cdata token a = text_step_fine token Cdata
    class_fine class.CdataEnd token a = bare token
    class_fine class.NameDef token a = name_fine (length doc) v room (text_at 5 doc (v.at + 1)) (text_lies 5 doc (v.at + 1))
    class_fine class.QnameDef token a = uri_fine (name_at v.known doc (v.at + 1)) (name_within v.known doc (v.at + 1))
    class_fine class.Nest token a =
        cond_if (FineIf (length doc) v room) (ltb v.depth nested_documents) _ _
        (λ t. nest_fine (length doc) v room (ltb-true _ _ t) (header_at doc (v.at + 1)) (header_within doc (v.at + 1)))
        (λ t. tt)
    class_fine class.EndNest token a =
        let d = ltb-true _ _ (and_right (content v.mode) _ (and_left (content v.mode && ltb 0 v.depth) _ a)) in
        let e = eqb-true _ _ (and_right (content v.mode && ltb 0 v.depth) _ a) in
        due_fine (length doc) v room _ (λ r. (omega arith, omega arith, d, e, r))
    class_fine class.Extension token a = extension_fine (number_at 5 doc (v.at + 1)) (number_within 5 doc (v.at + 1))
    class_fine class.Flush token a = omega arith

    token_fine : (token : ℕ) → FineIf (length doc) v room (token_step doc v room token)
    unfolding token_step
    token_fine token = cond_if (FineIf (length doc) v room) (allowed (class_of token) v) _ _ (λ t. class_fine (class_of token) token t) (λ t. tt)

    declared_fine : (byte : ℕ) → FineIf (length doc) v room (declared_step doc v room byte)
    unfolding declared_step
    declared_fine byte =
        cond_if (FineIf (length doc) v room) (is v.mode AfterXmlDecl && eqb byte 0xFD) _ _
        (λ t. text_step_fine byte AfterEncoding)
        (λ t. cond_if (FineIf (length doc) v room) (leb byte 2) _ _
        (λ u. let b : byte ≤ 2 = leb-true _ _ u in due_fine (length doc) v room _ (λ r. omega arith)) (λ u. tt))

  pub step_fine : FineIf (length doc) v room (step_at doc v room)
  unfolding step_at end_step
  step_fine =
      cond_if (FineIf (length doc) v room) (ltb v.at (length doc)) _ _
      (λ t. let h = ltb-true _ _ t in
      cond_if (FineIf (length doc) v room) (in_declaration v.mode) _ _ (λ u. declared_fine h (get_or doc v.at 0)) (λ u. token_fine h (get_or doc v.at 0)))
      (λ t. cond_if (FineIf (length doc) v room) (eqb v.depth 0 && eqb v.elements 0 && content v.mode) _ _ (λ u. tt) (λ u. tt))

  pub found_fine : {r : Result Step Refusal} → r ≡ step_at doc v room → FineIf (length doc) v room r
  found_fine e = subst (λ (s : Result Step Refusal). FineIf (length doc) v room s) (sym e) step_fine
