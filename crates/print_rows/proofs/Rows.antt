-- The lines of rows, from the last to the first. Assumes nothing.
use Prim.Native.Nat.{ℕ, zero, suc, ◌+◌, ◌-◌, ◌*◌, ◌≤◌, ◌<◌}
use mathlib.Core.Path.{◌≡◌, refl, sym, ◌∙◌}
use mathlib.Core.List.{List, [], ◌∷◌, ◌++◌}
use native.Mathlib.Omega.{arith}
use native.Mathlib.Nat.{mul-suc, mul-zero}
use lib.ListN.{length, get_or, take, drop, length-drop}
use lib.Seq.{get_or-drop, drop-drop, drop-cons}
use Rattle.sequences.specs.Lists.{part}
use Rattle.machine.specs.Tables.{name_rows_in, qname_rows_in, event_rows_in}
use Rattle.print_lines.specs.Lines.{PutBefore, field}
use Rattle.print_lines.proofs.Laws.{none_put, both_put}
use Rattle.print_rows.specs.Rows.{numbers, row_line, name_word, qname_word, event_word, token_digits, name_lines, qname_lines, event_lines}
use Rattle.print_rows.specs.Table.{table_lines}
use Rattle.token.specs.Tokens.{name_width, qname_width, event_width}

-- ---- a loop that puts the lines of one row after the other

-- what comes from row k on is put, and the rows before it have their room
pub record RowsSoFar (lines : ℕ → List ℕ) (room : ℕ → ℕ) (before after : List ℕ) (end rows at k : ℕ) : Type 0 where
  pub few : k ≤ rows
  pub roomy : room k ≤ at
  pub put : PutBefore before after end at (lines k)

pub rows_start : (lines : ℕ → List ℕ) (room : ℕ → ℕ) (text : List ℕ) (end rows : ℕ) → room rows ≤ end → lines rows ≡ [] → RowsSoFar lines room text text end rows end rows
rows_start lines room text end rows r e = record { few = omega arith; roomy = r; put = rw e (none_put text end) }

pub rows_next : {lines : ℕ → List ℕ} {room : ℕ → ℕ} {before after last : List ℕ} {end rows at from k : ℕ} (bytes : List ℕ) → RowsSoFar lines room before after end rows at k
    → PutBefore after last at from bytes → bytes ++ lines k ≡ lines (k - 1) → room (k - 1) ≤ from → RowsSoFar lines room before last end rows from (k - 1)
rows_next {lines} bytes f p e r = let w = f.few in record { few = omega arith; roomy = r; put = rw (← e) (both_put f.put p) }

-- ---- the numbers of a row

part_next : (l : List ℕ) (from n k : ℕ) → from + n ≤ length l → 0 < k → k ≤ n → part l (from + (k - 1)) (n - (k - 1)) ≡ get_or l (from + (k - 1)) 0 ∷ part l (from + k) (n - k)
part_next l from n k h p q =
    let s : n - (k - 1) ≡ suc (n - k) = omega arith in
    let i : from + (k - 1) < length l = omega arith in
    let j : suc (from + (k - 1)) ≡ from + k = omega arith in
    rw (s, drop-cons l (from + (k - 1)) 0 i, j)

-- the numbers from place k of a row on
abbrev pub numbers_from : List ℕ → ℕ → ℕ → ℕ → List ℕ
numbers_from table from count k = numbers (part table (from + k) (count - k))

pub numbers_none : (table : List ℕ) (from count : ℕ) → numbers_from table from count count ≡ []
numbers_none table from count = let z : count - count ≡ 0 = omega arith in rw z

pub numbers_next : (table : List ℕ) (from count k n : ℕ) → from + count ≤ length table → 0 < k → k ≤ count → n ≡ get_or table (from + (k - 1)) 0
    → field (0x20 ∷ []) n ++ numbers_from table from count k ≡ numbers_from table from count (k - 1)
numbers_next table from count k n h p q e = rw (part_next table from count k h p q, e)

pub numbers_end : (table : List ℕ) (from count k : ℕ) → k ≤ 0 → numbers_from table from count k ≡ numbers (part table from count)
numbers_end table from count k h =
    let z : from + k ≡ from = omega arith in
    let y : count - k ≡ count = omega arith in
    rw (z, y)

-- ---- rows of each table

take_two : (l : List ℕ) → 2 ≤ length l → take 2 l ≡ get_or l 0 0 ∷ get_or l 1 0 ∷ []
take_two [] h = absurd (let q : ⊥ = omega arith in q)
take_two (x ∷ []) h = absurd (let q : ⊥ = omega arith in q)
take_two (x ∷ y ∷ l) h = refl

take_three : (l : List ℕ) → 3 ≤ length l → take 3 l ≡ get_or l 0 0 ∷ get_or l 1 0 ∷ get_or l 2 0 ∷ []
take_three [] h = absurd (let q : ⊥ = omega arith in q)
take_three (x ∷ []) h = absurd (let q : ⊥ = omega arith in q)
take_three (x ∷ y ∷ []) h = absurd (let q : ⊥ = omega arith in q)
take_three (x ∷ y ∷ z ∷ l) h = refl

-- a number of the rest of a table
rest_at : (l : List ℕ) (j i k : ℕ) → k ≡ j + i → get_or (drop j l) i 0 ≡ get_or l k 0
rest_at l j i k e = rw (get_or-drop, e)

-- rows less one are one more to come
one_more : (rows k : ℕ) → 0 < k → k ≤ rows → rows - (k - 1) ≡ suc (rows - k)
one_more rows k p q = omega arith

-- ---- a table whose rows are so many numbers

-- up to where the lines of the rows before row k may reach, where each line has room for so many bytes
abbrev pub room_from : ℕ → ℕ → ℕ → ℕ → ℕ
room_from line end rows k = (end - line * rows) + line * k

pub times_less : (a k : ℕ) → 0 < k → a * k ≡ a * (k - 1) + a
times_less a zero p = absurd (let q : ⊥ = omega arith in q)
times_less a (suc k) p = let e : suc k - 1 ≡ k = omega arith in rw (e, mul-suc)

pub names_table : (rows : ℕ) (table : List ℕ) → name_width * rows ≤ length table → name_lines (name_rows_in rows table) ≡ table_lines name_word name_width rows table
unfolding name_lines
names_table zero table h = refl
names_table (suc rows) table h = rw (take_two table (omega arith), names_table rows (drop name_width table) (rw length-drop (omega arith)))

pub qnames_table : (rows : ℕ) (table : List ℕ) → qname_width * rows ≤ length table → qname_lines (qname_rows_in rows table) ≡ table_lines qname_word qname_width rows table
unfolding qname_lines
qnames_table zero table h = refl
qnames_table (suc rows) table h = rw (take_three table (omega arith), qnames_table rows (drop qname_width table) (rw length-drop (omega arith)))

module _ (word : List ℕ) (width : ℕ) (table : List ℕ) (rows : ℕ) where
  -- the lines from row k on
  abbrev pub lines_from : ℕ → List ℕ
  lines_from k = table_lines word width (rows - k) (drop (width * k) table)

  pub lines_none : lines_from rows ≡ []
  lines_none = let z : rows - rows ≡ 0 = omega arith in rw z

  pub lines_end : (k : ℕ) → k ≤ 0 → lines_from k ≡ table_lines word width rows table
  lines_end k h =
      let z : k ≡ 0 = omega arith in
      let w : rows - 0 ≡ rows = omega arith in
      rw (z, w, mul-zero)

  pub lines_next : (k : ℕ) → 0 < k → k ≤ rows → (word ++ row_line [] (part table (width * (k - 1)) width)) ++ lines_from k ≡ lines_from (k - 1)
  lines_next k more few =
      let d : width * (k - 1) + width ≡ width * k = sym (times_less width k more) in
      let rest : drop width (drop (width * (k - 1)) table) ≡ drop (width * k) table = rw (drop-drop, d) refl in
      rw (one_more rows k more few, rest)

-- ---- events

abbrev pub events_from : List ℕ → ℕ → ℕ → List ℕ
events_from events rows k = event_lines (event_rows_in (rows - k) (drop (event_width * k) events))

module _ (table : List ℕ) (rows : ℕ) where
  pub events_none : events_from table rows rows ≡ []
  unfolding event_lines
  events_none = let z : rows - rows ≡ 0 = omega arith in rw z

  module _ (k : ℕ) (end : k ≤ 0) where
    all_rows : rows - k ≡ rows
    all_rows = omega arith

    pub events_end : events_from table rows k ≡ event_lines (event_rows_in rows table)
    events_end = let z : k ≡ 0 = omega arith in rw (all_rows, z)

  module _ (k : ℕ) (more : 0 < k) (few : k ≤ rows) where
    pub events_next : {token : ℕ} → event_width * rows ≤ length table → token ≡ get_or table (event_width * (k - 1)) 0
        → ((event_word ++ token_digits token) ++ row_line [] (part table (event_width * (k - 1) + 1) 3)) ++ events_from table rows k ≡ events_from table rows (k - 1)
    unfolding event_lines
    events_next {token} h e =
        let j = event_width * (k - 1) in
        let t = take_three (drop (j + 1) table) (rw length-drop (omega arith)) in
        let d : j + 4 ≡ event_width * k = omega arith in
        let rest : drop 4 (drop j table) ≡ drop (event_width * k) table = rw (drop-drop, d) refl in
        let a0 : get_or (drop j table) 0 0 ≡ token = rest_at table j 0 j (omega arith) ∙ sym e in
        let a1 = rest_at table j 1 (j + 1) refl ∙ sym (rest_at table (j + 1) 0 (j + 1) (omega arith)) in
        let a2 = rest_at table j 2 (j + 2) refl ∙ sym (rest_at table (j + 1) 1 (j + 2) (omega arith)) in
        let a3 = rest_at table j 3 (j + 3) refl ∙ sym (rest_at table (j + 1) 2 (j + 3) (omega arith)) in
        rw (one_more rows k more few, t, rest, a0, a1, a2, a3)
