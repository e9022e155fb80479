-- Every field is refused with a number of 01, "Answer numbers", at a place from its first byte to the document's end. Assumes nothing.
use Prim.Native.Nat.{ℕ, ◌+◌, ◌*◌, ◌≤◌, ◌<◌}
use mathlib.Core.Path.{◌≡◌, refl, subst}
use mathlib.Core.Bool.{◌&&◌}
use mathlib.Core.List.{List}
use native.Mathlib.Omega.{arith}
use lib.Dec.{ltb, leb}
use lib.ListN.{length, get_or, drop}
use borrow.Author.Tests.{ltb-true}
use Rattle.sequences.specs.Lists.{part}
use Rattle.sequences.proofs.Tests.{cond_if}
use Rattle.std.specs.Prelude.{Result, Ok, Err}
use Rattle.token.specs.Tokens.{missing, no_row, largest}
use Rattle.token.specs.Faults.{number_of}
use Rattle.token.specs.declared.Refusal as tokens
use Rattle.token.specs.declared.Shape.{Shape}
use Rattle.token.specs.declared.Shape.TheVariants.{Nothing, Fixed, Text, Blob, CodePage, Decimal, Qname, Stamp, Date, Time, ZonedTime}
use Rattle.number.specs.Number.{NumberFront, spelled, unended, cut, front, number_at}
use Rattle.number.specs.Number as numbers
use Rattle.number.specs.declared.Number.{Number}
use Rattle.rules.specs.Rules.{decimal_size, lawful}
use Rattle.value.specs.Fields.{needed, text_judged, text_payload, text_at, blob_after, decimal_after, time_field, extent_at, ruled, field_at}
use Rattle.value.specs.Fields as values
use Rattle.value.specs.declared.Text as declared
use Rattle.value.specs.declared.Field.{Field}
use Rattle.value.specs.declared.Field.TheVariants.{Payload, Reference}
use Rattle.fields.specs.Fields.{name_judged, name_at, qname_judged, qname_at, header_judged, header_at}
use Rattle.fields.specs.declared.Name.{Name}
use Rattle.fields.specs.declared.Qname as qnames
use Rattle.fields.specs.declared.Header.{Header}

-- a refusal, of a document of so many bytes, of what stands from a place on: 2 to 9, at a place from there to the end
pub record Refusal (size at number place : ℕ) : Type 0 where
  pub some : missing ≤ number
  pub known : number ≤ no_row
  pub inside : place ≤ size
  -- input that ends too early is refused at its end, which a caller knows not to lie before
  pub from : at ≤ size → at ≤ place

-- at the place itself
pub here : {size at number : ℕ} → at ≤ size → missing ≤ number → number ≤ no_row → Refusal size at number at
here h s k = record { some = s; known = k; inside = h; from = λ l. omega arith }

-- a byte is missing
pub at_end : {size at : ℕ} → Refusal size at missing size
at_end = record { some = omega arith; known = omega arith; inside = omega arith; from = λ l. l }

-- of a later field
pub later : {size at from number place : ℕ} → at ≤ from → from ≤ size → Refusal size from number place → Refusal size at number place
later l h r = let p = r.from h in record { some = r.some; known = r.known; inside = r.inside; from = λ i. omega arith }

-- ---- numbers

abbrev NumberNot : ℕ → ℕ → Result Number tokens.Refusal → Type 0
NumberNot size at (Ok x) = Unit
NumberNot size at (Err x) = Refusal size at (number_of x.fault) x.place

number_by : (doc : List ℕ) (at : ℕ) → at ≤ length doc → (f : NumberFront) → NumberNot (length doc) at (numbers.number_judged doc at f)
number_by doc at h (spelled value size) = cond_if (NumberNot (length doc) at) (leb value largest) _ _ (λ t. tt) (λ t. here h (omega arith) (omega arith))
number_by doc at h unended = here h (omega arith) (omega arith)
number_by doc at h cut = at_end

number_not : (most : ℕ) (doc : List ℕ) (at : ℕ) → at ≤ length doc → NumberNot (length doc) at (number_at most doc at)
unfolding number_at
number_not most doc at h = number_by doc at h (front most (drop at doc))

pub number_refused : (most : ℕ) (doc : List ℕ) (at : ℕ) {x : tokens.Refusal} → at ≤ length doc → number_at most doc at ≡ Err x → Refusal (length doc) at (number_of x.fault) x.place
number_refused most doc at h e = subst (NumberNot (length doc) at) e (number_not most doc at h)

-- ---- texts

abbrev TextNot : ℕ → ℕ → Result declared.Text tokens.Refusal → Type 0
TextNot size at (Ok x) = Unit
TextNot size at (Err x) = Refusal size at (number_of x.fault) x.place

text_by_lem : (doc : List ℕ) (at : ℕ) (n : Result Number tokens.Refusal) → NumberNot (length doc) at n → TextNot (length doc) at (text_judged doc n)
text_by_lem doc at (Ok n) h = cond_if (TextNot (length doc) at) (leb (n.next + 2 * n.value) (length doc)) _ _ (λ t. tt) (λ t. at_end)
text_by_lem doc at (Err x) h = h

text_not : (most : ℕ) (doc : List ℕ) (at : ℕ) → at ≤ length doc → TextNot (length doc) at (text_at most doc at)
unfolding text_at
text_not most doc at h = text_by_lem doc at (number_at most doc at) (number_not most doc at h)

pub text_refused : (most : ℕ) (doc : List ℕ) (at : ℕ) {x : tokens.Refusal} → at ≤ length doc → text_at most doc at ≡ Err x → Refusal (length doc) at (number_of x.fault) x.place
text_refused most doc at h e = subst (TextNot (length doc) at) e (text_not most doc at h)

-- ---- names and qnames

abbrev NameNot : ℕ → ℕ → Result Name tokens.Refusal → Type 0
NameNot size at (Ok x) = Unit
NameNot size at (Err x) = Refusal size at (number_of x.fault) x.place

name_by : (size known at : ℕ) → at ≤ size → (n : Result Number tokens.Refusal) → NumberNot size at n → NameNot size at (name_judged known at n)
name_by size known at h (Ok n) r = cond_if (NameNot size at) (leb n.value known) _ _ (λ t. tt) (λ t. here h (omega arith) (omega arith))
name_by size known at h (Err x) r = r

pub name_refused : (known : ℕ) (doc : List ℕ) (at : ℕ) {x : tokens.Refusal} → at ≤ length doc → name_at known doc at ≡ Err x → Refusal (length doc) at (number_of x.fault) x.place
unfolding name_at
name_refused known doc at h e = subst (NameNot (length doc) at) e (name_by (length doc) known at h (number_at 5 doc at) (number_not 5 doc at h))

abbrev QnameNot : ℕ → ℕ → Result qnames.Qname tokens.Refusal → Type 0
QnameNot size at (Ok x) = Unit
QnameNot size at (Err x) = Refusal size at (number_of x.fault) x.place

qname_by : (size known at : ℕ) → at ≤ size → (n : Result Number tokens.Refusal) → NumberNot size at n → QnameNot size at (qname_judged known at n)
qname_by size known at h (Ok n) r =
    cond_if (QnameNot size at) (leb 1 n.value && leb n.value known) _ _ (λ t. tt) (λ t. here h (omega arith) (omega arith))
qname_by size known at h (Err x) r = r

pub qname_refused : (known : ℕ) (doc : List ℕ) (at : ℕ) {x : tokens.Refusal} → at ≤ length doc → qname_at known doc at ≡ Err x → Refusal (length doc) at (number_of x.fault) x.place
unfolding qname_at
qname_refused known doc at h e = subst (QnameNot (length doc) at) e (qname_by (length doc) known at h (number_at 5 doc at) (number_not 5 doc at h))

-- ---- headers

abbrev HeaderNot : ℕ → ℕ → Result Header tokens.Refusal → Type 0
HeaderNot size at (Ok x) = Unit
HeaderNot size at (Err x) = Refusal size at (number_of x.fault) x.place

-- of the bytes that follow
header_later : {size at next : ℕ} → next ≡ at + 1 → at < size → (h : Result Header tokens.Refusal) → HeaderNot size next h → HeaderNot size at h
header_later e l (Ok x) k = tt
header_later e l (Err x) k = later (omega arith) (omega arith) k

header_by : (doc : List ℕ) (at next first last : ℕ) → next ≡ at + 1 → (h : Result Header tokens.Refusal) → HeaderNot (length doc) next h → HeaderNot (length doc) at (header_judged doc at first last h)
header_by doc at next first last e h k =
    cond_if (HeaderNot (length doc) at) (ltb at (length doc)) _ _
    (λ t. let l = ltb-true at (length doc) t in
    cond_if (HeaderNot (length doc) at) (leb first (get_or doc at 0) && leb (get_or doc at 0) last) h _
    (λ u. header_later e l h k) (λ u. here (omega arith) (omega arith) (omega arith)))
    (λ t. at_end)

pub header_refused : (doc : List ℕ) (at : ℕ) {x : tokens.Refusal} → header_at doc at ≡ Err x → Refusal (length doc) at (number_of x.fault) x.place
unfolding header_at
header_refused doc at e =
    subst (HeaderNot (length doc) at) e
    (header_by doc at (at + 1) _ _ refl _
    (header_by doc (at + 1) (at + 2) _ _ (omega arith) _
    (header_by doc (at + 2) (at + 3) _ _ (omega arith) _
    (header_by doc (at + 3) (at + 4) _ _ (omega arith) _ (header_by doc (at + 4) (at + 5) _ _ (omega arith) _ tt)))))

-- ---- payloads

abbrev FieldNot : ℕ → ℕ → Result Field tokens.Refusal → Type 0
FieldNot size at (Ok x) = Unit
FieldNot size at (Err x) = Refusal size at (number_of x.fault) x.place

-- the token at a place of the document, and what it carries
module _ (doc : List ℕ) (at : ℕ) (h : at < length doc) where
  after : at + 1 ≤ length doc
  after = omega arith

  broken : {n : ℕ} → missing ≤ n → n ≤ no_row → Refusal (length doc) at n at
  broken s k = here (omega arith) s k

  number_after : (most : ℕ) → NumberNot (length doc) at (number_at most doc (at + 1))
  number_after most = go (number_at most doc (at + 1)) (number_not most doc (at + 1) after)
    where
      go : (n : Result Number tokens.Refusal) → NumberNot (length doc) (at + 1) n → NumberNot (length doc) at n
      go (Ok x) r = tt
      go (Err x) r = later (omega arith) after r

  needed_not : (place size : ℕ) → FieldNot (length doc) at (needed doc place size)
  unfolding needed
  needed_not place size = cond_if (FieldNot (length doc) at) (leb (place + size) (length doc)) _ _ (λ t. tt) (λ t. at_end)

  payload_not : (t : Result declared.Text tokens.Refusal) → TextNot (length doc) at t → FieldNot (length doc) at (text_payload t)
  payload_not (Ok x) r = tt
  payload_not (Err x) r = r

  blob_not : (n : Result Number tokens.Refusal) → NumberNot (length doc) at n → FieldNot (length doc) at (blob_after doc n)
  blob_not (Ok n) r = needed_not n.next n.value
  blob_not (Err x) r = r

  decimal_not : (n : Result Number tokens.Refusal) → NumberNot (length doc) at n → FieldNot (length doc) at (decimal_after doc at n)
  decimal_not (Ok n) r = cond_if (FieldNot (length doc) at) (decimal_size n.value) _ _ (λ t. needed_not n.next n.value) (λ t. broken (omega arith) (omega arith))
  decimal_not (Err x) r = r

  refer_not : (n : Result Number tokens.Refusal) → NumberNot (length doc) at n → FieldNot (length doc) at (values.qname_payload n)
  refer_not (Ok x) r = tt
  refer_not (Err x) r = r

  time_not : (more : ℕ) → FieldNot (length doc) at (time_field doc at more)
  unfolding time_field
  time_not more =
      cond_if (FieldNot (length doc) at) (ltb (at + 1) (length doc)) _ _
      (λ t. cond_if (FieldNot (length doc) at) (leb (get_or doc (at + 1) 0) 7) _ _ (λ u. needed_not (at + 1) _) (λ u. broken (omega arith) (omega arith)))
      (λ t. at_end)

  extent_not : (shape : Shape) → FieldNot (length doc) at (extent_at shape doc at)
  unfolding extent_at text_at
  extent_not Nothing = needed_not (at + 1) 0
  extent_not (Fixed size) = needed_not (at + 1) size
  extent_not (Text most) = payload_not (text_at most doc (at + 1)) (text_by_lem doc at (number_at most doc (at + 1)) (number_after most))
  extent_not (Blob most) = blob_not (number_at most doc (at + 1)) (number_after most)
  extent_not (CodePage most) = blob_not (number_at most doc (at + 1)) (number_after most)
  extent_not Decimal = decimal_not (number_at 5 doc (at + 1)) (number_after 5)
  extent_not Qname = refer_not (number_at 5 doc (at + 1)) (number_after 5)
  extent_not (Stamp low) = needed_not (at + 1) 8
  extent_not (Date first last) = needed_not (at + 1) 3
  extent_not (Time first last) = time_not 3
  extent_not (ZonedTime first last) = time_not 5

  ruled_not : (shape : Shape) (f : Result Field tokens.Refusal) → FieldNot (length doc) at f → FieldNot (length doc) at (ruled shape doc at f)
  ruled_not shape (Ok (Payload place size)) r =
      cond_if (FieldNot (length doc) at) (lawful shape (part doc place size)) _ _ (λ t. tt) (λ t. broken (omega arith) (omega arith))
  ruled_not shape (Ok (Reference number next)) r = tt
  ruled_not shape (Err x) r = r

  pub field_refused : (shape : Shape) {x : tokens.Refusal} → field_at shape doc at ≡ Err x → Refusal (length doc) at (number_of x.fault) x.place
  unfolding field_at
  field_refused shape e = subst (FieldNot (length doc) at) e (ruled_not shape (extent_at shape doc at) (extent_not shape))
