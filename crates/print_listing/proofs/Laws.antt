-- Lines put one before the other: their bytes, and the room that they take. Assumes nothing.
use Prim.Native.Nat.{ℕ, suc, ◌+◌, ◌-◌, ◌*◌, ◌≤◌, ◌<◌}
use mathlib.Core.Path.{◌≡◌, refl, sym}
use mathlib.Core.List.{List, [], ◌∷◌, ◌++◌}
use native.Mathlib.Omega.{arith}
use lib.ListN.{length, get_or, drop}
use lib.Seq.{get_or-drop, drop-drop}
use Rattle.print_lines.specs.Lines.{PutBefore, line, refused_word, at_word}
use Rattle.print_lines.proofs.Laws.{none_put, both_put, short_digits, long_digits, line_length}
use Rattle.print_listing.specs.Printed.{records_word, pairs_word, pair_lines, pair_rows}

-- ---- one line

-- the two kinds of a first line
pub refused_room : (number place : ℕ) → number < 4294967296 → place < 18446744073709551616 → length (line refused_word number at_word place) ≤ 180280
refused_room number place h k =
    let x = short_digits number h in
    let y = long_digits place k in
    let l = line_length refused_word number at_word place in
    omega arith

pub counts_room : (records pairs : ℕ) {room : ℕ} → records < 18446744073709551616 → pairs < 18446744073709551616 → 56 ≤ room
    → length (line records_word records pairs_word pairs) ≤ room
counts_room records pairs h k r =
    let x = long_digits records h in
    let y = long_digits pairs k in
    let l = line_length records_word records pairs_word pairs in
    omega arith

-- ---- the lines of pairs

-- the lines of the pairs from place k on are put
pub record LinesSoFar (pairs before after : List ℕ) (count at k : ℕ) : Type 0 where
  pub few : k ≤ count
  pub held : 2 * count ≤ length pairs
  pub room : 56 + 22 * k ≤ at
  pub put : PutBefore before after (length before) at (pair_lines (pair_rows (count - k) (drop (2 * k) pairs)))

pub lines_start : (pairs text : List ℕ) (count : ℕ) → 2 * count ≤ length pairs → 56 + 22 * count ≤ length text
    → LinesSoFar pairs text text count (length text) count
unfolding pair_lines
lines_start pairs text count h r =
    let z : count - count ≡ 0 = omega arith in
    record { few = omega arith; held = h; room = r; put = rw z (none_put text (length text)) }

module _ {pairs before after : List ℕ} {count at k e l : ℕ} (f : LinesSoFar pairs before after count at k) (more : 0 < k)
    (x : (e ≡ get_or pairs (2 * (k - 1)) 0) × (e < 4294967296)) (y : (l ≡ get_or pairs (2 * (k - 1) + 1) 0) × (l < 4294967296)) where
  pub pair_room_fact : length (line [] e (0x20 ∷ []) l) ≤ 22
  pair_room_fact =
      let s = short_digits e x.1 in
      let t = short_digits l y.1 in
      rw line_length (omega arith)

  -- one pair more
  lines_one : line [] e (0x20 ∷ []) l ++ pair_lines (pair_rows (count - k) (drop (2 * k) pairs)) ≡ pair_lines (pair_rows (count - (k - 1)) (drop (2 * (k - 1)) pairs))
  unfolding pair_lines
  lines_one =
      let w = f.few in
      let s : count - (k - 1) ≡ suc (count - k) = omega arith in
      let d : 2 * (k - 1) + 2 ≡ 2 * k = omega arith in
      let z : 2 * (k - 1) + 0 ≡ 2 * (k - 1) = omega arith in
      let first : get_or (drop (2 * (k - 1)) pairs) 0 0 ≡ e = rw (get_or-drop, z) (sym x.0) in
      let second : get_or (drop (2 * (k - 1)) pairs) 1 0 ≡ l = rw get_or-drop (sym y.0) in
      let rest : drop 2 (drop (2 * (k - 1)) pairs) ≡ drop (2 * k) pairs = rw (drop-drop, d) refl in
      rw (s, first, second, rest)

  pub lines_next : {last : List ℕ} {from : ℕ} → PutBefore after last at from (line [] e (0x20 ∷ []) l) → LinesSoFar pairs before last count from (k - 1)
  lines_next p =
      let w = f.few in
      let r = f.room in
      let q = p.place in
      let s = pair_room_fact in
      record { few = omega arith; held = f.held; room = omega arith; put = rw (← lines_one) (both_put f.put p) }

pub lines_end : {pairs before after : List ℕ} {count at k : ℕ} → LinesSoFar pairs before after count at k → k ≤ 0
    → PutBefore before after (length before) at (pair_lines (pair_rows count pairs)) × (56 ≤ at)
lines_end {pairs} {before} {after} {count} {at} {k} f h =
    let z : k ≡ 0 = omega arith in
    let r = f.room in
    let e : count - k ≡ count = omega arith in
    (rw (e, z) at f.put, omega arith)
