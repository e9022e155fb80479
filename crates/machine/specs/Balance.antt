-- Serves the code. What opens and closes among the events of a document (01, "Document rules" and "Numbers that bound the
-- work"): a checker that takes the tokens of event rows one after the other.
use Rattle.std.specs.Prelude.{ℕ, ◌+◌, ◌-◌, ◌≤◌, Bool, true, false, cond, not, ◌&&◌, List, [], ◌∷◌, ◌≡◌, ltb, leb, eqb, length}
use Rattle.std.proofs.Math.Option.{Option, none, some}
use Rattle.token.specs.Tokens.{open_elements, nested_documents, class_of}
use Rattle.token.specs.declared.Class.{Class}
use Rattle.token.specs.declared.Class.TheVariants as class
use Rattle.machine.specs.Machine.{EventRow}

-- what is open: the elements of each open document, the innermost first; an attribute list; a CDATA section
pub record Opened : Type 0 where
  pub documents : List ℕ
  pub list : Bool
  pub section : Bool

abbrev pub opened : List ℕ → Bool → Bool → Opened
opened documents list section = record { documents = documents; list = list; section = section }

-- the outer document with nothing open
abbrev pub nothing_open : Opened
nothing_open = opened (0 ∷ []) false false

-- all open elements
abbrev pub total : List ℕ → ℕ
total [] = 0
total (n ∷ ns) = n + total ns

-- those of the innermost document; one more, one less; the documents around it
abbrev pub innermost : List ℕ → ℕ
innermost [] = 0
innermost (n ∷ ns) = n

abbrev pub raised : List ℕ → List ℕ
raised [] = []
raised (n ∷ ns) = (n + 1) ∷ ns

abbrev pub lowered : List ℕ → List ℕ
lowered [] = []
lowered (n ∷ ns) = (n - 1) ∷ ns

abbrev pub around : List ℕ → List ℕ
around [] = []
around (n ∷ ns) = ns

-- no attribute list and no CDATA section is open
abbrev pub outside : Opened → Bool
outside b = not b.list && not b.section

-- a step of the checker, or its refusal
abbrev pub only : Bool → Opened → Option Opened
only test b = cond test (some b) none

-- what a token does, by its class; `none` where it may not stand
abbrev pub taken_by : Class → Opened → Option Opened
taken_by class.Unknown b = some b
taken_by class.Value b = some b
taken_by class.LaterValue b = some b
taken_by class.XmlDecl b = some b
taken_by class.Encoding b = some b
taken_by class.DocType b = some b
taken_by class.System b = some b
taken_by class.Public b = some b
taken_by class.Subset b = some b
-- F8, F7: an element opens, within the bound; the innermost document has one to close
taken_by class.Element b = only (outside b && ltb (total b.documents) open_elements) (opened (raised b.documents) false false)
taken_by class.EndElement b = only (outside b && ltb 0 (innermost b.documents)) (opened (lowered b.documents) false false)
-- F6, F5: an attribute list opens or goes on; it closes
taken_by class.Attribute b = only (not b.section) (opened b.documents true false)
taken_by class.EndAttributes b = only (b.list && not b.section) (opened b.documents false false)
taken_by class.Pi b = some b
taken_by class.Comment b = some b
-- F2, F1: a CDATA section opens or goes on; it closes
taken_by class.Cdata b = only (not b.list) (opened b.documents false true)
taken_by class.CdataEnd b = only (not b.list && b.section) (opened b.documents false false)
taken_by class.NameDef b = some b
taken_by class.QnameDef b = some b
-- EC, EB: a nested document opens, within the bound; it closes with no element open, and never the outer one
taken_by class.Nest b = only (outside b && leb (length b.documents) nested_documents) (opened (0 ∷ b.documents) false false)
taken_by class.EndNest b =
    only (outside b && ltb 1 (length b.documents) && eqb (innermost b.documents) 0) (opened (around b.documents) false false)
taken_by class.Extension b = some b
taken_by class.Flush b = some b

-- token 0, the standalone byte, is of no class and opens nothing
abbrev pub taken : ℕ → Opened → Option Opened
taken token b = taken_by (class_of token) b

abbrev pub and_then : (Opened → Option Opened) → Option Opened → Option Opened
and_then f none = none
and_then f (some b) = f b

-- the events one after the other
abbrev pub check : Opened → List EventRow → Option Opened
check b [] = some b
check b (e ∷ es) = and_then (λ c. check c es) (taken e.token b)

-- the checker takes these events, and no more is open after them than 01's bounds allow
pub record AtMost (events : List EventRow) : Type 0 where
  pub after : Opened
  pub reached : check nothing_open events ≡ some after
  pub elements : total after.documents ≤ open_elements
  pub nested : length after.documents ≤ 1 + nested_documents
