-- Any reading: it is refused before its first token and has no row, or its steps lead from the header to one that stops.
-- Assumes nothing.
use Prim.Native.Nat.{ℕ, ◌≤◌, ◌<◌}
use mathlib.Core.Path.{◌≡◌, refl}
use mathlib.Core.Bool.{Bool, true, false}
use mathlib.Core.List.{List}
use native.Mathlib.Omega.{arith}
use lib.Dec.{ltb}
use lib.ListN.{length}
use borrow.Author.Tests.{ltb-true, ltb-false}
use Rattle.std.specs.Prelude.{Ok, Err}
use Rattle.std.specs.Prelude as std
use Rattle.token.specs.declared.Refusal as tokens
use Rattle.token.specs.Tokens.{too_long, longest}
use Rattle.fields.specs.Fields.{header_at}
use Rattle.fields.specs.declared.Header.{Header}
use Rattle.modes.specs.declared.View.{View}
use Rattle.scan.specs.declared.Room.{Room}
use Rattle.scan.specs.declared.Step.{Step}
use Rattle.modes.specs.Modes.{content}
use Rattle.machine.specs.Machine.{view, Result, result, blank, started, reading}
use Rattle.machine.proofs.Goes.{Halts, refused}
use Rattle.machine.proofs.Goes.{ended as halted}
use Rattle.machine.proofs.Trace.{Stopped, stops_reading}
use Rattle.machine.proofs.Whole.{too_long_fact, header_on}
use Rattle.machine.proofs.Refusals.{Refusal, header_refused}
use Rattle.machine.proofs.Found.{Found, stop, ended, found_step}

-- a document that is refused before its first token: it is too long, or its header is refused
pub data Unread (size : ℕ) : ℕ → ℕ → Type 0 where
  long : longest < size → Unread size too_long longest
  headless : {number place : ℕ} → Refusal size 0 number place → Unread size number place

module _ (doc : List ℕ) (room : Room) (P : Result → Type 0) (unread : (number place : ℕ) → Unread (length doc) number place → P (result number place 0 blank))
    (read : (version next : ℕ) → Stopped doc room version (started version next) (reading doc room) → P (reading doc room)) where
  by_header : length doc ≤ longest → (h : std.Result Header tokens.Refusal) → header_at doc 0 ≡ h → P (reading doc room)
  by_header l (Ok h) e = read h.version h.next (stops_reading doc room l e)
  by_header l (Err r) e = rw (← header_on doc room l refl e) (unread _ _ (headless (header_refused doc 0 e)))

  by_length : (b : Bool) → ltb longest (length doc) ≡ b → P (reading doc room)
  by_length true e = rw (← too_long_fact doc room (ltb-true _ _ e)) (unread too_long longest (long (ltb-true _ _ e)))
  by_length false e = by_header (ltb-false _ _ e) (header_at doc 0) refl

  -- a fact of all readings
  pub by_reading : P (reading doc room)
  by_reading = by_length (ltb longest (length doc)) refl

-- where the document ends well: at root of the outer document, nothing open
pub record Ends (size : ℕ) (v : View) : Type 0 where
  pub past : size ≤ v.at
  pub depth_none : v.depth ≡ 0
  pub elements_none : v.elements ≡ 0
  pub at_root : content v.mode ≡ true

ends_by : {doc : List ℕ} {v : View} {room : Room} {number place : ℕ} {x : std.Result Step tokens.Refusal} → Halts number place x → Found doc v room x → number ≡ 0 → Ends (length doc) v
ends_by refused (stop r) e = let l = r.some in absurd (let q : ⊥ = omega arith in q)
ends_by halted (ended l d n c) e = record { past = l; depth_none = d; elements_none = n; at_root = c }

-- an accepted reading ends well
pub accepted_ends : {doc : List ℕ} {room : Room} {version next : ℕ} {r : Result} → Stopped doc room version (started version next) r → r.number ≡ 0
    → Ends (length doc) (view r.final)
accepted_ends {doc} {room} {r = r} w e = ends_by w.halts (found_step doc (view r.final) room w.stop) e
