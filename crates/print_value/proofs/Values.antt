-- What is printed is the text of the value, or that it has none. Assumes nothing.
use Prim.Native.Nat.{ℕ, ◌+◌, ◌-◌, ◌≤◌}
use mathlib.Core.Path.{◌≡◌, refl}
use mathlib.Core.Bool.{Bool, true, false}
use mathlib.Core.Option.{Option, none, some}
use mathlib.Core.List.{List, [], ◌∷◌}
use native.Mathlib.Omega.{arith}
use lib.ListN.{length, get_or, take, drop, length-drop}
use lib.Seq.{take_all, get_or-drop}
use borrow.Author.Tests.{le-leb}
use Rattle.sequences.specs.Lists.{Bytes, bytes_of}
use Rattle.sequences.proofs.Units.{length_bytes_of}
use Rattle.text.specs.declared.Shown.{Shown}
use Rattle.plan.specs.Text.{kind_of, text_of, is_same}
use Rattle.text.specs.Shows.{laid, shown_by, Shows, part_of, handed, text_answer}
use Rattle.plan.proofs.Lengths.{text_told, text_short}
use Rattle.text.proofs.Returned.{part_is}
use Rattle.print_value.specs.Printed.{refusal, shown_lines, value_lines, printed}

-- every text fits a buffer of 262,226 bytes
text_fits : (token : ℕ) (p units : List ℕ) → Bytes p → text_of token p ≡ some units → length (bytes_of units) ≤ 262226
text_fits token p units b e =
    let s = text_short token p units b e in
    let t = (text_told token p units e).short in
    let l = length_bytes_of units in
    omega arith

-- the answer, and the part that it speaks of, for a text that fits
lines_are : (own : Bool) (text : Option (List ℕ)) (room : ℕ) → ((units : List ℕ) → text ≡ some units → length (bytes_of units) ≤ room)
    → (shown_lines (text_answer (shown_by own text room)) (handed own text room) ≡ value_lines text) × (length (handed own text room) ≤ room)
unfolding shown_lines laid
lines_are true none room f = (refl, omega arith)
lines_are false none room f = (refl, omega arith)
lines_are true (some units) room f = (refl, f units refl)
lines_are false (some units) room f =
    let l = le-leb (length (bytes_of units)) room (f units refl) in
    (rw l, rw l (f units refl))

module _ {token : ℕ} {p before after : List ℕ} {r : Shown} (b : Bytes p) (s : Shows token p before after r) (w : length before ≡ 262226) where
  both : (shown_lines (text_answer r) (part_of p after r) ≡ value_lines (text_of token p)) × (length (part_of p after r) ≤ 262226)
  both =
      let h = lines_are (is_same (kind_of token)) (text_of token p) 262226 (λ units e. text_fits token p units b e) in
      rw (part_is token p before after r b s, s.answer, w) h

  pub part_short : length (part_of p after r) ≤ 262226
  part_short = both.1

  pub lines_shown : shown_lines (text_answer r) (part_of p after r) ≡ value_lines (text_of token p)
  lines_shown = both.0

pub printed_none : (input : List ℕ) → length input ≡ 0 → printed input ≡ refusal 12 0
printed_none [] e = refl
printed_none (x ∷ l) e = absurd (let q : ⊥ = omega arith in q)

pub printed_some : (input : List ℕ) → (length input ≡ 0 → ⊥) → printed input ≡ value_lines (text_of (get_or input 0 0) (drop 1 input))
printed_some [] n = absurd (n refl)
printed_some (x ∷ l) n = refl

-- the bytes after the token
pub payload_is : (input : List ℕ) → take (length input - 1) (drop 1 input) ≡ drop 1 input
payload_is input = take_all (length input - 1) (drop 1 input) (rw length-drop (omega arith))

pub rest_bytes : {l : List ℕ} → Bytes l → Bytes (drop 1 l)
rest_bytes {l} b = record { each = λ k. rw get_or-drop (b.each (1 + k)) }
