-- References to names and qnames by number, and the header of a document.
use Rattle.std.specs.Prelude.{ℕ, ◌+◌, Bool, cond, ◌&&◌, List, leb, ltb, length, get_or, Result, Ok, Err}
use Rattle.token.specs.Tokens.{mb32}
use Rattle.token.specs.Faults.{refusal}
use Rattle.token.specs.declared.Fault.TheVariants.{Missing, BadHeader, NotDefined}
use Rattle.token.specs.declared.Refusal.{Refusal}
use Rattle.token.specs.declared.NameNumber.{NameNumber}
use Rattle.token.specs.declared.QnameNumber.{QnameNumber}
use Rattle.number.specs.Number.{number_at}
use Rattle.number.specs.declared.Number.{Number}
use Rattle.fields.specs.declared.Name.{Name}
use Rattle.fields.specs.declared.Qname.{Qname}
use Rattle.fields.specs.declared.Header.{Header}

-- ---- references (004, sections 2.2.2 and 2.2.4; 01, "Document rules")

-- a number, and the place after it
abbrev pub name : NameNumber → ℕ → Name
name number next = record { number = number; next = next }

abbrev pub qname : QnameNumber → ℕ → Qname
qname number next = record { number = number; next = next }

-- in a document that has `known` names: a number over that is 6 at its first byte; name 0 is the empty text
abbrev pub name_judged : ℕ → ℕ → Result Number Refusal → Result Name Refusal
name_judged known at (Ok n) = cond (leb n.value known) (Ok (name (record { 0 = n.value }) n.next)) (Err (refusal NotDefined at))
name_judged known at (Err r) = Err r

unfoldable pub name_at : ℕ → List ℕ → ℕ → Result Name Refusal
name_at known doc at = name_judged known at (number_at mb32 doc at)

-- in a document that has `known` qnames: so is qname 0
abbrev pub defined_qname : ℕ → ℕ → Bool
defined_qname known value = leb 1 value && leb value known

abbrev pub qname_judged : ℕ → ℕ → Result Number Refusal → Result Qname Refusal
qname_judged known at (Ok n) = cond (defined_qname known n.value) (Ok (qname (record { 0 = n.value }) n.next)) (Err (refusal NotDefined at))
qname_judged known at (Err r) = Err r

unfoldable pub qname_at : ℕ → List ℕ → ℕ → Result Qname Refusal
qname_at known doc at = qname_judged known at (number_at mb32 doc at)

-- ---- the header (004, section 2.1.1; 01, "Document rules"): DF FF, version 01 or 02, B0 04, byte by byte

-- a version, and the place after the header
abbrev pub header : ℕ → ℕ → Header
header version next = record { version = version; next = next }

-- what follows where the byte at a place lies from `first` to `last`; else 3 at that byte, or 2 where there is none
abbrev pub header_judged : List ℕ → ℕ → ℕ → ℕ → Result Header Refusal → Result Header Refusal
header_judged doc at first last onward =
    cond (ltb at (length doc)) (cond (leb first (get_or doc at 0) && leb (get_or doc at 0) last) onward (Err (refusal BadHeader at))) (Err (refusal Missing (length doc)))

-- its version and the place after it, or the refusal
unfoldable pub header_at : List ℕ → ℕ → Result Header Refusal
header_at doc at =
    header_judged doc at 0xDF 0xDF
    (header_judged doc (at + 1) 0xFF 0xFF
    (header_judged doc (at + 2) 1 2
    (header_judged doc (at + 3) 0xB0 0xB0
    (header_judged doc (at + 4) 0x04 0x04
    (Ok (header (get_or doc (at + 2) 0) (at + 5)))))))
