-- Records, their meaning, and the pairs of records with equal meaning (01, "Meaning and canonical form").
use Rattle.std.specs.Prelude.{ℕ, suc, ◌<◌, zero, ◌-◌, ◌≡◌, ◌⊎◌, Bool, cond, true, false, ◌&&◌, ◌||◌, List, [], ◌∷◌, ◌++◌, map, eqb, take}
use Rattle.sequences.specs.Lists.{In, same, units_of}
use Rattle.std.proofs.Math.Option.{Option, none, some}
use Rattle.machine.specs.Machine.{Event, texted, standalone, pi, qnamed, valued, nest, plain}
use Rattle.plan.specs.Text.{text_of}
use Rattle.token.specs.Tokens.{ELEMENT_TOKEN, ATTRIBUTE_TOKEN, ENDELEMENT_TOKEN, ENDATTRIBUTES_TOKEN, CDATA_TOKEN}

-- ---- the pairs of equal elements of a list (01, "Extracts worked by hand": each line is earlier, later record)

-- places from 0, ordered by the earlier, then the later
pub record Pair : Type 0 where
  pub earlier : ℕ
  pub later : ℕ

abbrev pub pair : ℕ → ℕ → Pair
pair earlier later = record { earlier = earlier; later = later }

-- the places, counted from `j`, of the elements equal to `a`
unfoldable pub equal_to : {A : Type 0} → (A → A → Bool) → A → ℕ → List A → List ℕ
equal_to same a j [] = []
equal_to same a j (b ∷ l) = cond (same a b) (j ∷ equal_to same a (suc j) l) (equal_to same a (suc j) l)

unfoldable pub pairs_from : {A : Type 0} → (A → A → Bool) → ℕ → List A → List Pair
pairs_from same i [] = []
pairs_from same i (a ∷ l) = map (pair i) (equal_to same a (suc i) l) ++ pairs_from same (suc i) l

unfoldable pub pairs_of : {A : Type 0} → (A → A → Bool) → List A → List Pair
pairs_of same l = pairs_from same 0 l

-- the numbers of a list of pairs, pair after pair
abbrev pub flat_pairs : List Pair → List ℕ
flat_pairs [] = []
flat_pairs (p ∷ ps) = p.earlier ∷ p.later ∷ flat_pairs ps

-- the order of pairs: by the earlier place, then by the later
abbrev pub Before : Pair → Pair → Type 0
Before p q = (p.earlier < q.earlier) ⊎ ((p.earlier ≡ q.earlier) × (p.later < q.later))

-- each pair stands before all that follow it
abbrev pub Ascending : List Pair → Type 0
Ascending [] = Unit
Ascending (p ∷ ps) = ((q : Pair) → In q ps → Before p q) × Ascending ps

-- no pair stands in the list again
abbrev pub Once : List Pair → Type 0
Once [] = Unit
Once (p ∷ ps) = (In p ps → ⊥) × Once ps

-- ---- records and their meaning, from the events with names by text alone

-- a record is an element with no element around it, nested documents included; its meaning is a list of marks and text units
pub data Symbol : Type 0 where
  -- a unit of text, of a value or of CDATA
  unit : ℕ → Symbol
  -- an element's opening mark with URI and local texts, and its end mark
  opening : List ℕ → List ℕ → Symbol
  ending : Symbol
  -- an attribute's mark with both texts, and its closing mark
  attribute : List ℕ → List ℕ → Symbol
  closing : Symbol
  -- a value without text: its token and payload bytes
  value : ℕ → List ℕ → Symbol
  -- XSD-QNAME: URI and local texts
  qname : List ℕ → List ℕ → Symbol

-- whether an attribute is open, and whether it counts
pub data OpenAttribute : Type 0 where
  none_open : OpenAttribute
  counted : OpenAttribute
  skipped : OpenAttribute

-- the bytes of "xmlns", and of ":"
abbrev pub xmlns : List ℕ
xmlns = 0x78 ∷ 0 ∷ 0x6D ∷ 0 ∷ 0x6C ∷ 0 ∷ 0x6E ∷ 0 ∷ 0x73 ∷ 0 ∷ []

-- URI and local are empty, and the prefix is "xmlns" or starts "xmlns:"
unfoldable pub declares : List ℕ → List ℕ → List ℕ → Bool
declares uri prefix local =
    same uri [] && (same local [] && (same prefix xmlns || same (take 12 prefix) (xmlns ++ (0x3A ∷ 0 ∷ []))))

-- the mark that closes an open attribute
abbrev pub closed : OpenAttribute → List Symbol
closed none_open = []
closed counted = closing ∷ []
closed skipped = []

-- values of a skipped attribute do not count
abbrev pub unless : OpenAttribute → List Symbol → List Symbol
unless none_open l = l
unless counted l = l
unless skipped l = []

-- a value: its text, or a mark of its own
abbrev pub shown_as : ℕ → List ℕ → Option (List ℕ) → List Symbol
shown_as token payload none = value token payload ∷ []
shown_as token payload (some units) = map unit units

-- ELEMENT, ATTRIBUTE, XSD-QNAME
unfoldable pub named_symbols : OpenAttribute → ℕ → List ℕ → List ℕ → List ℕ → List Symbol
named_symbols q token uri prefix local =
    cond (eqb token ELEMENT_TOKEN) (opening uri local ∷ [])
    (cond (eqb token ATTRIBUTE_TOKEN) (closed q ++ cond (declares uri prefix local) [] (attribute uri local ∷ [])) (unless q (qname uri local ∷ [])))

-- ENDELEMENT; ENDATTRIBUTES closes the last attribute
unfoldable pub plain_symbols : OpenAttribute → ℕ → List Symbol
plain_symbols q token = cond (eqb token ENDELEMENT_TOKEN) (ending ∷ []) (cond (eqb token ENDATTRIBUTES_TOKEN) (closed q) [])

-- what an event inside a record adds to its meaning; nothing else counts
abbrev pub symbols_of : OpenAttribute → Event → List Symbol
symbols_of q (texted token t) = cond (eqb token CDATA_TOKEN) (map unit (units_of t)) []
symbols_of q (standalone b) = []
symbols_of q (pi target t) = []
symbols_of q (qnamed token uri prefix local) = named_symbols q token uri prefix local
symbols_of q (valued token payload) = unless q (shown_as token payload (text_of token payload))
symbols_of q (nest version) = []
symbols_of q (plain token) = plain_symbols q token

abbrev pub attribute_after : OpenAttribute → Event → OpenAttribute
attribute_after q (texted token t) = q
attribute_after q (standalone b) = q
attribute_after q (pi target t) = q
attribute_after q (qnamed token uri prefix local) = cond (eqb token ATTRIBUTE_TOKEN) (cond (declares uri prefix local) skipped counted) q
attribute_after q (valued token payload) = q
attribute_after q (nest version) = q
attribute_after q (plain token) = cond (eqb token ENDATTRIBUTES_TOKEN) none_open q

-- an element opens
abbrev pub opens : Event → Bool
opens (texted token t) = false
opens (standalone b) = false
opens (pi target t) = false
opens (qnamed token uri prefix local) = eqb token ELEMENT_TOKEN
opens (valued token payload) = false
opens (nest version) = false
opens (plain token) = false

abbrev pub closes : Event → Bool
closes (texted token t) = false
closes (standalone b) = false
closes (pi target t) = false
closes (qnamed token uri prefix local) = false
closes (valued token payload) = false
closes (nest version) = false
closes (plain token) = eqb token ENDELEMENT_TOKEN

-- elements open after an event, counted across nested documents
unfoldable pub depth_after : ℕ → Event → ℕ
depth_after depth e = cond (opens e) (suc depth) (cond (closes e) (depth - 1) depth)

-- an event adds to a record where an element is open or opens
abbrev pub inside : ℕ → Event → Bool
inside zero e = opens e
inside (suc depth) e = true

-- a record begins: an element with no element around it
abbrev pub begins : ℕ → Event → Bool
begins zero e = opens e
begins (suc depth) e = false

-- symbols before the first of some pieces, and a new piece before them
abbrev pub onto : List Symbol → List (List Symbol) → List (List Symbol)
onto l [] = l ∷ []
onto l (p ∷ ps) = (l ++ p) ∷ ps

abbrev pub new_if : Bool → List (List Symbol) → List (List Symbol)
new_if true ps = [] ∷ ps
new_if false ps = ps

-- the rest of the record that is open, then the records that begin in these events
unfoldable pub pieces : ℕ → OpenAttribute → List Event → List (List Symbol)
pieces depth q [] = [] ∷ []
pieces depth q (e ∷ es) =
    new_if (begins depth e) (onto (cond (inside depth e) (symbols_of q e) []) (pieces (depth_after depth e) (attribute_after q e) es))

abbrev pub rest : List (List Symbol) → List (List Symbol)
rest [] = []
rest (p ∷ ps) = ps

-- the meanings of the records, in the order of their ELEMENT tokens; what stands before the first record is no record
unfoldable pub meanings : List Event → List (List Symbol)
meanings es = rest (pieces 0 none_open es)

-- ---- equal meanings

-- a symbol's kind and the two lists that it carries, which together are the symbol
abbrev pub symbol_kind : Symbol → ℕ
symbol_kind (unit u) = 0
symbol_kind (opening uri local) = 1
symbol_kind ending = 2
symbol_kind (attribute uri local) = 3
symbol_kind closing = 4
symbol_kind (value token payload) = 5
symbol_kind (qname uri local) = 6

abbrev pub first_of : Symbol → List ℕ
first_of (unit u) = u ∷ []
first_of (opening uri local) = uri
first_of ending = []
first_of (attribute uri local) = uri
first_of closing = []
first_of (value token payload) = token ∷ []
first_of (qname uri local) = uri

abbrev pub second_of : Symbol → List ℕ
second_of (unit u) = []
second_of (opening uri local) = local
second_of ending = []
second_of (attribute uri local) = local
second_of closing = []
second_of (value token payload) = payload
second_of (qname uri local) = local

unfoldable pub same_symbol : Symbol → Symbol → Bool
same_symbol x y = eqb (symbol_kind x) (symbol_kind y) && (same (first_of x) (first_of y) && same (second_of x) (second_of y))

abbrev pub same_meaning : List Symbol → List Symbol → Bool
same_meaning [] [] = true
same_meaning [] (y ∷ m) = false
same_meaning (x ∷ l) [] = false
same_meaning (x ∷ l) (y ∷ m) = same_symbol x y && same_meaning l m

-- ---- texts cut otherwise: "the same events, except that any run of neighbouring values with text, or of CDATA chunks, may stand
-- as another such run with the same joined text"

-- a run of values that have a text, with the units of their joined text
pub data ValueRun : List Event → List ℕ → Type 0 where
  no_value : ValueRun [] []
  one_value : {token : ℕ} {payload units : List ℕ} {es : List Event} {joined : List ℕ}
      → text_of token payload ≡ some units → ValueRun es joined → ValueRun (valued token payload ∷ es) (units ++ joined)

-- a run of CDATA chunks, with the units of their joined text
pub data ChunkRun : List Event → List ℕ → Type 0 where
  no_chunk : ChunkRun [] []
  one_chunk : {text : List ℕ} {es : List Event} {joined : List ℕ} → ChunkRun es joined → ChunkRun (texted CDATA_TOKEN text ∷ es) (units_of text ++ joined)

-- the same events, except for how such runs are cut
pub data Recut : List Event → List Event → Type 0 where
  no_event : Recut [] []
  same_event : (e : Event) {es fs : List Event} → Recut es fs → Recut (e ∷ es) (e ∷ fs)
  values : {us vs es fs : List Event} {joined : List ℕ}
      → ValueRun us joined → ValueRun vs joined → Recut es fs → Recut (us ++ es) (vs ++ fs)
  chunks : {us vs es fs : List Event} {joined : List ℕ}
      → ChunkRun us joined → ChunkRun vs joined → Recut es fs → Recut (us ++ es) (vs ++ fs)
