-- Reading as a whole: 1 is tested first, then the outer header, then the machine runs. Assumes nothing.
use Prim.Native.Nat.{ℕ, ◌+◌, ◌≤◌, ◌<◌}
use mathlib.Core.Path.{◌≡◌, refl, subst}
use mathlib.Core.List.{List}
use native.Mathlib.Omega.{arith}
use lib.ListN.{length}
use Rattle.std.specs.Prelude.{Ok}
use Rattle.std.specs.Prelude as std
use Rattle.token.specs.declared.Refusal.{Refusal}
use Rattle.token.specs.Tokens.{longest, too_long}
use Rattle.fields.specs.Bounds.{HeaderWithin}
use Rattle.fields.specs.declared.Header.{Header}
use Rattle.machine.specs.Machine.{Result, result, blank, reading, room_in, read_answer, Reads}
use Rattle.machine.proofs.Whole.{too_long_fact}
use Rattle.rows.specs.Tables.{ReadingBegins}
use Rattle.machine.specs.declared.Answer.{Answer}

-- nothing is read, and no row is written
pub unread : (end : Result) (number place : ℕ) (n q e : List ℕ) {a : Answer} → result number place 0 blank ≡ end → a ≡ read_answer (result number place 0 blank)
    → Reads end n q e n q e a
unread end number place n q e is a = rw (← is) (record { answer_is = a; names_are = refl; qnames_are = refl; events_are = refl })

-- a document that is too long; the answer field by field, as `grind` needs it
pub too_long_read : (doc n q e : List ℕ) (a : Answer) → longest < length doc → a ≡ record { number = too_long; place = longest; names = 0; qnames = 0; events = 0; version = 0 }
    → Reads (reading doc (room_in (length n) (length q) (length e))) n q e n q e a
too_long_read doc n q e a l is = unread _ _ _ _ _ _ (too_long_fact doc _ l) is

pub is_header : (size at : ℕ) {r : std.Result Header Refusal} {h : Header} → r ≡ Ok h → HeaderWithin size at r
    → (h.next ≡ at + 5) × (h.next ≤ size) × (1 ≤ h.version) × (h.version ≤ 2)
is_header size at e h = subst (λ (x : std.Result Header Refusal). HeaderWithin size at x) e h

pub begins : (size : ℕ) (n q e : List ℕ) (next : ℕ) → size ≤ longest → next ≤ size → ReadingBegins size (room_in (length n) (length q) (length e)) n q e next
begins size n q e next h l = omega arith
