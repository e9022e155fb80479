-- The canonical form (01, "Meaning and canonical form", last paragraph), from the outer version and the events with names by
-- text alone: headers and events kept, payloads byte for byte, shortest numbers; just before an event that needs them the
-- texts not yet defined in that document (URI, prefix, local; a PI's target; empty ones as 0), then the qname.
use Rattle.std.specs.Prelude.{ℕ, suc, ◌/◌, Bool, false, cond, ◌&&◌, List, [], ◌∷◌, ◌++◌, eqb, length}
use Rattle.sequences.specs.Lists.{same}
use Rattle.token.specs.Tokens.{shape_of, NAMEDEF_TOKEN, QNAMEDEF_TOKEN, PI_TOKEN, NEST_TOKEN, ENDNEST_TOKEN}
use Rattle.token.specs.declared.Shape.{Shape}
use Rattle.token.specs.declared.Shape.TheVariants.{Nothing, Fixed, Text, Blob, CodePage, Decimal, Qname, Stamp, Date, Time, ZonedTime}
use Rattle.number.specs.Number.{shortest}
use Rattle.machine.specs.Machine.{Event, texted, standalone, pi, qnamed, valued, nest, plain}

-- ---- texts and qnames "once by text": the place of a text among those already defined gives both whether it is defined and
-- its number; a text is the list of its bytes

-- a qname by its three texts
pub record Triple : Type 0 where
  pub uri : List ℕ
  pub prefix : List ℕ
  pub local : List ℕ

abbrev pub triple : List ℕ → List ℕ → List ℕ → Triple
triple uri prefix local = record { uri = uri; prefix = prefix; local = local }

unfoldable pub same_triple : Triple → Triple → Bool
same_triple q r = same q.uri r.uri && (same q.prefix r.prefix && same q.local r.local)

-- the first place of an element in a list, or the list's length
unfoldable pub place : {A : Type 0} → (A → A → Bool) → List A → A → ℕ
place equal [] a = 0
place equal (x ∷ l) a = cond (equal x a) 0 (suc (place equal l a))

-- it is not in the list
unfoldable pub absent : {A : Type 0} → (A → A → Bool) → List A → A → Bool
absent equal l a = eqb (place equal l a) (length l)

-- a text that has to be defined; the empty text never has
unfoldable pub fresh : List (List ℕ) → List ℕ → Bool
fresh texts [] = false
fresh texts (b ∷ t) = absent same texts (b ∷ t)

-- the number of a text: in the order of definition from 1, and 0 for the empty text
unfoldable pub number_of : List (List ℕ) → List ℕ → ℕ
number_of texts [] = 0
number_of texts (b ∷ t) = suc (place same texts (b ∷ t))

-- the number of a qname
unfoldable pub qnumber_of : List Triple → Triple → ℕ
qnumber_of qnames q = suc (place same_triple qnames q)

-- one element more, where a test says so
unfoldable pub grown_if : {A : Type 0} → Bool → List A → A → List A
grown_if test l a = cond test (l ++ (a ∷ [])) l

-- the texts defined after a text was needed
unfoldable pub grown : List (List ℕ) → List ℕ → List (List ℕ)
grown texts t = grown_if (fresh texts t) texts t

-- ---- bytes of texts, payloads and headers

-- a text after its length in units
unfoldable pub with_units : List ℕ → List ℕ
with_units t = shortest (length t / 2) ++ t

-- the length that stands before a payload: in units before a text, in bytes before a blob, a code page text and a decimal
unfoldable pub length_of : Shape → List ℕ → List ℕ
length_of Nothing p = []
length_of (Fixed size) p = []
length_of (Text most) p = shortest (length p / 2)
length_of (Blob most) p = shortest (length p)
length_of (CodePage most) p = shortest (length p)
length_of Decimal p = shortest (length p)
length_of Qname p = []
length_of (Stamp low) p = []
length_of (Date first last) p = []
length_of (Time first last) p = []
length_of (ZonedTime first last) p = []

unfoldable pub header_of : ℕ → List ℕ
header_of version = 0xDF ∷ 0xFF ∷ version ∷ 0xB0 ∷ 0x04 ∷ []

-- ---- what a document has defined so far, in order, and the documents around it from the inside out

pub record Defined : Type 0 where
  pub names : List (List ℕ)
  pub qnames : List Triple

abbrev pub defined : List (List ℕ) → List Triple → Defined
defined names qnames = record { names = names; qnames = qnames }

pub record Scopes : Type 0 where
  pub here : Defined
  pub outer : List Defined

abbrev pub scopes : Defined → List Defined → Scopes
scopes here outer = record { here = here; outer = outer }

abbrev pub none_yet : Scopes
none_yet = scopes (defined [] []) []

-- ---- definitions

-- a text, where it is not yet defined
unfoldable pub definition : List (List ℕ) → List ℕ → List ℕ
definition texts t = cond (fresh texts t) (NAMEDEF_TOKEN ∷ with_units t) []

-- the texts of a qname, one after the other
unfoldable pub with_texts : List (List ℕ) → Triple → List (List ℕ)
with_texts texts q = grown (grown (grown texts q.uri) q.prefix) q.local

unfoldable pub definitions : List (List ℕ) → Triple → List ℕ
definitions texts q =
    definition texts q.uri ++ (definition (grown texts q.uri) q.prefix ++ definition (grown (grown texts q.uri) q.prefix) q.local)

-- a qname by the numbers of its texts
unfoldable pub qname_bytes : List (List ℕ) → Triple → List ℕ
qname_bytes texts q = QNAMEDEF_TOKEN ∷ (shortest (number_of texts q.uri) ++ (shortest (number_of texts q.prefix) ++ shortest (number_of texts q.local)))

-- a qname with its texts, where it is not yet defined
unfoldable pub qname_definition : Defined → Triple → List ℕ
qname_definition d q = cond (absent same_triple d.qnames q) (definitions d.names q ++ qname_bytes (with_texts d.names q) q) []

unfoldable pub with_qname : Defined → Triple → Defined
with_qname d q = cond (absent same_triple d.qnames q) (defined (with_texts d.names q) (d.qnames ++ (q ∷ []))) d

-- ---- events

-- the bytes of an event, after the definitions that it needs
abbrev pub emit : Defined → Event → List ℕ
emit d (texted token t) = token ∷ with_units t
emit d (standalone value) = value ∷ []
emit d (pi target t) = definition d.names target ++ (PI_TOKEN ∷ (shortest (number_of d.names target) ++ with_units t))
emit d (qnamed token uri prefix local) =
    qname_definition d (triple uri prefix local) ++ (token ∷ shortest (qnumber_of d.qnames (triple uri prefix local)))
emit d (valued token payload) = token ∷ (length_of (shape_of token) payload ++ payload)
emit d (nest version) = NEST_TOKEN ∷ header_of version
emit d (plain token) = token ∷ []

-- a nested document starts empty; its parent's names go on after it
abbrev pub left : Defined → List Defined → Scopes
left here [] = scopes here []
left here (d ∷ ds) = scopes d ds

abbrev pub scopes_after : Scopes → Event → Scopes
scopes_after s (texted token t) = s
scopes_after s (standalone value) = s
scopes_after s (pi target t) = scopes (defined (grown s.here.names target) s.here.qnames) s.outer
scopes_after s (qnamed token uri prefix local) = scopes (with_qname s.here (triple uri prefix local)) s.outer
scopes_after s (valued token payload) = s
scopes_after s (nest version) = scopes (defined [] []) (s.here ∷ s.outer)
scopes_after s (plain token) = cond (eqb token ENDNEST_TOKEN) (left s.here s.outer) s

unfoldable pub body : Scopes → List Event → List ℕ
body s [] = []
body s (e ∷ es) = emit s.here e ++ body (scopes_after s e) es

-- the canonical form
unfoldable pub canonical : ℕ → List Event → List ℕ
canonical version events = header_of version ++ body none_yet events
