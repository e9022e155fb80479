-- A token's code from its class, by one test computed over the list of tokens; and the one shape that refers to a qname.
-- Assumes nothing.
use Prim.Native.Nat.{ℕ, ◌+◌}
use mathlib.Core.Path.{◌≡◌, refl, sym, subst}
use mathlib.Core.Bool.{Bool, true, ◌&&◌}
use mathlib.Core.List.{List, [], ◌∷◌}
use lib.Dec.{ltb, leb, eqb}
use lib.ListN.{length, get_or}
use borrow.Author.Tests.{eqb-true}
use Rattle.sequences.specs.Lists.{part}
use Rattle.sequences.proofs.Tests.{cond_if, and_left, and_right}
use Rattle.std.specs.Prelude.{Result, Ok, Err}
use Rattle.token.specs.declared.Refusal.{Refusal}
use Rattle.token.specs.Tokens.{Token, token, tokens, find, class_of, shape_of}
use Rattle.token.specs.declared.Class.{Class}
use Rattle.token.specs.declared.Class.TheVariants as class
use Rattle.token.specs.declared.Shape.{Shape}
use Rattle.token.specs.declared.Shape.TheVariants.{Nothing, Fixed, Text, Blob, CodePage, Decimal, Qname, Stamp, Date, Time, ZonedTime}
use Rattle.number.specs.Number.{number_at}
use Rattle.number.specs.declared.Number.{Number}
use Rattle.token.specs.declared.QnameNumber.{QnameNumber}
use Rattle.rules.specs.Rules.{decimal_size, lawful}
use Rattle.value.specs.Fields.{needed, text_payload, text_at, blob_after, decimal_after, time_field, qname_payload, extent_at, ruled, field_at}
use Rattle.value.specs.declared.Text as declared
use Rattle.value.specs.declared.Field.{Field}
use Rattle.value.specs.declared.Field.TheVariants.{Payload, Reference}

-- ---- codes

-- the code of a value that refers to a qname
abbrev pub value_code : Shape → ℕ → Bool
value_code Nothing code = true
value_code (Fixed size) code = true
value_code (Text most) code = true
value_code (Blob most) code = true
value_code (CodePage most) code = true
value_code Decimal code = true
value_code Qname code = eqb code 0x8C
value_code (Stamp low) code = true
value_code (Date first last) code = true
value_code (Time first last) code = true
value_code (ZonedTime first last) code = true

-- the code of each class that has one
abbrev pub class_code : Class → Shape → ℕ → Bool
class_code class.Unknown shape code = true
class_code class.Value shape code = value_code shape code
class_code class.LaterValue shape code = value_code shape code
class_code class.XmlDecl shape code = eqb code 0xFE
class_code class.Encoding shape code = eqb code 0xFD
class_code class.DocType shape code = eqb code 0xFC
class_code class.System shape code = eqb code 0xFB
class_code class.Public shape code = eqb code 0xFA
class_code class.Subset shape code = eqb code 0xF9
class_code class.Element shape code = eqb code 0xF8
class_code class.EndElement shape code = eqb code 0xF7
class_code class.Attribute shape code = eqb code 0xF6
class_code class.EndAttributes shape code = eqb code 0xF5
class_code class.Pi shape code = eqb code 0xF4
class_code class.Comment shape code = eqb code 0xF3
class_code class.Cdata shape code = eqb code 0xF2
class_code class.CdataEnd shape code = eqb code 0xF1
class_code class.NameDef shape code = eqb code 0xF0
class_code class.QnameDef shape code = eqb code 0xEF
class_code class.Nest shape code = eqb code 0xEC
class_code class.EndNest shape code = eqb code 0xEB
class_code class.Extension shape code = eqb code 0xEA
class_code class.Flush shape code = eqb code 0xE9

abbrev code_test : Token → Bool
code_test t = class_code t.class t.shape t.code

abbrev all : (Token → Bool) → List Token → Bool
all test [] = true
all test (t ∷ ts) = test t && all test ts

-- a test that each listed token passes is passed by the one found
all_found : (test : Token → Bool) (code : ℕ) (ts : List Token) → test (token code class.Unknown Nothing) ≡ true → all test ts ≡ true
    → test (find code ts) ≡ true
all_found test code [] u h = u
all_found test code (t ∷ ts) u h =
    cond_if (λ (x : Token). test x ≡ true) (eqb code t.code) t (find code ts) (λ e. and_left (test t) _ h)
    (λ e. all_found test code ts u (and_right (test t) _ h))

pub find_code : (code : ℕ) (ts : List Token) → (find code ts).code ≡ code
find_code code [] = refl
find_code code (t ∷ ts) =
    cond_if (λ (x : Token). x.code ≡ code) (eqb code t.code) t (find code ts) (λ e. sym (eqb-true code t.code e)) (λ e. find_code code ts)

-- so `eqb-true _ _ (coded t e) : t ≡ 0xF5` where `e : class_of t ≡ class.EndAttributes`
pub coded : (code : ℕ) {c : Class} → class_of code ≡ c → class_code c (shape_of code) code ≡ true
unfolding class_of shape_of
coded code e =
    let h : class_code (find code tokens).class (find code tokens).shape (find code tokens).code ≡ true = all_found code_test code tokens refl refl in
    let k = find_code code tokens in
    subst (λ (c : Class). class_code c (find code tokens).shape code ≡ true) e
    (subst (λ (n : ℕ). class_code (find code tokens).class (find code tokens).shape n ≡ true) k h)

-- ---- shapes

-- a field that is a reference has the shape of one
abbrev Refers : Shape → Result Field Refusal → Type 0
Refers shape (Ok (Payload place size)) = Unit
Refers shape (Ok (Reference number next)) = shape ≡ Qname
Refers shape (Err r) = Unit

module _ (shape : Shape) (doc : List ℕ) where
  needed_refers : (place size : ℕ) → Refers shape (needed doc place size)
  unfolding needed
  needed_refers place size = cond_if (Refers shape) (leb (place + size) (length doc)) _ _ (λ t. tt) (λ t. tt)

  text_refers : (t : Result declared.Text Refusal) → Refers shape (text_payload t)
  text_refers (Ok t) = tt
  text_refers (Err r) = tt

  blob_refers : (n : Result Number Refusal) → Refers shape (blob_after doc n)
  blob_refers (Ok n) = needed_refers n.next n.value
  blob_refers (Err r) = tt

  decimal_refers : (at : ℕ) (n : Result Number Refusal) → Refers shape (decimal_after doc at n)
  decimal_refers at (Ok n) = cond_if (Refers shape) (decimal_size n.value) _ _ (λ t. needed_refers n.next n.value) (λ t. tt)
  decimal_refers at (Err r) = tt

  time_refers : (at more : ℕ) → Refers shape (time_field doc at more)
  unfolding time_field
  time_refers at more =
      cond_if (Refers shape) (ltb (at + 1) (length doc)) _ _
      (λ t. cond_if (Refers shape) (leb (get_or doc (at + 1) 0) 7) _ _ (λ u. needed_refers (at + 1) _) (λ u. tt))
      (λ t. tt)

  ruled_refers : (at : ℕ) (f : Result Field Refusal) → Refers shape f → Refers shape (ruled shape doc at f)
  ruled_refers at (Ok (Payload place size)) h = cond_if (Refers shape) (lawful shape (part doc place size)) _ _ (λ t. tt) (λ t. tt)
  ruled_refers at (Ok (Reference number next)) h = h
  ruled_refers at (Err r) h = tt

qname_refers : (n : Result Number Refusal) → Refers Qname (qname_payload n)
qname_refers (Ok n) = refl
qname_refers (Err r) = tt

extent_refers : (shape : Shape) (doc : List ℕ) (at : ℕ) → Refers shape (extent_at shape doc at)
unfolding extent_at
extent_refers Nothing doc at = needed_refers Nothing doc (at + 1) 0
extent_refers (Fixed size) doc at = needed_refers (Fixed size) doc (at + 1) size
extent_refers (Text most) doc at = text_refers (Text most) doc (text_at most doc (at + 1))
extent_refers (Blob most) doc at = blob_refers (Blob most) doc (number_at most doc (at + 1))
extent_refers (CodePage most) doc at = blob_refers (CodePage most) doc (number_at most doc (at + 1))
extent_refers Decimal doc at = decimal_refers Decimal doc at (number_at 5 doc (at + 1))
extent_refers Qname doc at = qname_refers (number_at 5 doc (at + 1))
extent_refers (Stamp low) doc at = needed_refers (Stamp low) doc (at + 1) 8
extent_refers (Date first last) doc at = needed_refers (Date first last) doc (at + 1) 3
extent_refers (Time first last) doc at = time_refers (Time first last) doc at 3
extent_refers (ZonedTime first last) doc at = time_refers (ZonedTime first last) doc at 5

pub reference_shape : (shape : Shape) (doc : List ℕ) (at : ℕ) {n : QnameNumber} {next : ℕ} → field_at shape doc at ≡ Ok (Reference n next) → shape ≡ Qname
unfolding field_at
reference_shape shape doc at {n} {next} e =
    subst (λ (f : Result Field Refusal). Refers shape f) e (ruled_refers shape doc at (extent_at shape doc at) (extent_refers shape doc at))
