-- Where a token's payload lies in a document, and what refuses it: 01, "Document rules", "Answer numbers" and "Rows".
use Rattle.std.specs.Prelude.{ℕ, ◌+◌, ◌*◌, cond, List, ltb, leb, length, get_or, Result, Ok, Err}
use Rattle.sequences.specs.Lists.{part}
use Rattle.token.specs.Tokens.{mb32}
use Rattle.token.specs.Faults.{refusal}
use Rattle.token.specs.declared.Fault.TheVariants.{Missing, BadValue}
use Rattle.token.specs.declared.Refusal.{Refusal}
use Rattle.token.specs.declared.Shape.{Shape}
use Rattle.token.specs.declared.Shape.TheVariants.{Nothing, Fixed, Text, Blob, CodePage, Decimal, Qname, Stamp, Date, Time, ZonedTime}
use Rattle.number.specs.Number.{number_at}
use Rattle.number.specs.declared.Number.{Number}
use Rattle.rules.specs.Rules.{decimal_size, time_bytes, lawful}
use Rattle.value.specs.declared.Text as declared
use Rattle.value.specs.declared.Field.{Field}
use Rattle.value.specs.declared.Field.TheVariants.{Payload, Reference}

-- a text: where its units lie, and how many
abbrev pub text : ℕ → ℕ → declared.Text
text place units = record { place = place; units = units }

-- so many bytes from a place on, or 2
unfoldable pub needed : List ℕ → ℕ → ℕ → Result Field Refusal
needed doc place size = cond (leb (place + size) (length doc)) (Ok (Payload place size)) (Err (refusal Missing (length doc)))

-- a text: its length in 16-bit units, then that many units
abbrev pub text_judged : List ℕ → Result Number Refusal → Result declared.Text Refusal
text_judged doc (Ok n) = cond (leb (n.next + 2 * n.value) (length doc)) (Ok (text n.next n.value)) (Err (refusal Missing (length doc)))
text_judged doc (Err r) = Err r

-- the text whose length stands at a place, in a number of at most `most` bytes: where its units lie, and how many
unfoldable pub text_at : ℕ → List ℕ → ℕ → Result declared.Text Refusal
text_at most doc at = text_judged doc (number_at most doc at)

-- a text as a payload, in bytes
abbrev pub text_payload : Result declared.Text Refusal → Result Field Refusal
text_payload (Ok t) = Ok (Payload t.place (2 * t.units))
text_payload (Err r) = Err r

-- after a length in bytes
abbrev pub blob_after : List ℕ → Result Number Refusal → Result Field Refusal
blob_after doc (Ok n) = needed doc n.next n.value
blob_after doc (Err r) = Err r

-- after a decimal's length, which is judged once read
abbrev pub decimal_after : List ℕ → ℕ → Result Number Refusal → Result Field Refusal
decimal_after doc at (Ok n) = cond (decimal_size n.value) (needed doc n.next n.value) (Err (refusal BadValue at))
decimal_after doc at (Err r) = Err r

-- a time's precision is judged once read; then so many bytes more than the time has
unfoldable pub time_field : List ℕ → ℕ → ℕ → Result Field Refusal
time_field doc at more =
    cond (ltb (at + 1) (length doc))
    (cond (leb (get_or doc (at + 1) 0) 7) (needed doc (at + 1) (1 + time_bytes (get_or doc (at + 1) 0) + more)) (Err (refusal BadValue at)))
    (Err (refusal Missing (length doc)))

abbrev pub qname_payload : Result Number Refusal → Result Field Refusal
qname_payload (Ok n) = Ok (Reference (record { 0 = n.value }) n.next)
qname_payload (Err r) = Err r

-- the payload of the token at a place, before the rules on its bytes
unfoldable pub extent_at : Shape → List ℕ → ℕ → Result Field Refusal
extent_at Nothing doc at = needed doc (at + 1) 0
extent_at (Fixed size) doc at = needed doc (at + 1) size
extent_at (Text most) doc at = text_payload (text_at most doc (at + 1))
extent_at (Blob most) doc at = blob_after doc (number_at most doc (at + 1))
extent_at (CodePage most) doc at = blob_after doc (number_at most doc (at + 1))
extent_at Decimal doc at = decimal_after doc at (number_at mb32 doc (at + 1))
extent_at Qname doc at = qname_payload (number_at mb32 doc (at + 1))
extent_at (Stamp low) doc at = needed doc (at + 1) 8
extent_at (Date first last) doc at = needed doc (at + 1) 3
extent_at (Time first last) doc at = time_field doc at 3
extent_at (ZonedTime first last) doc at = time_field doc at 5

-- then every other rule
abbrev pub ruled : Shape → List ℕ → ℕ → Result Field Refusal → Result Field Refusal
ruled shape doc at (Ok (Payload place size)) = cond (lawful shape (part doc place size)) (Ok (Payload place size)) (Err (refusal BadValue at))
ruled shape doc at (Ok (Reference number next)) = Ok (Reference number next)
ruled shape doc at (Err r) = Err r

-- what the token at a place carries: its payload's place and size, or a qname's number and the place after it, or the refusal
unfoldable pub field_at : Shape → List ℕ → ℕ → Result Field Refusal
field_at shape doc at = ruled shape doc at (extent_at shape doc at)
