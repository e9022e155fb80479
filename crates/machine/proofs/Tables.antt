-- The rows of a table of numbers: how many, which stands where, that a table filled with rows gives them back, and that texts
-- of names lie in the document. Assumes nothing.
use Prim.Native.Nat.{ℕ, zero, suc, ◌+◌, ◌*◌, ◌≤◌, ◌<◌}
use mathlib.Core.Path.{◌≡◌, refl, ap}
use mathlib.Core.Option.{none, some}
use mathlib.Core.List.{List, [], ◌∷◌, ◌++◌, map}
use native.Mathlib.Omega.{arith}
use lib.ListN.{length, get_or, get_elem?, drop}
use lib.Seq.{get_or-drop}
use Rattle.sequences.specs.Lists.{overlay}
use Rattle.sequences.specs.Arrays.{Every, first, none}
use Rattle.machine.specs.Machine.{NameRow, QnameRow, EventRow, name_row, qname_row, event, flat_names, flat_qnames, flat_events}
use Rattle.machine.specs.Facts.{none, NameFits}
use Rattle.machine.specs.Tables.{name_rows_in, qname_rows_in, event_rows_in, NamesInside}
use Rattle.token.specs.Tokens.{qname_width, event_width}

-- an element that stands somewhere
module _ {A : Type 0} where
  pub at_inside : (l : List A) (k : ℕ) {a : A} → get_elem? l k ≡ some a → k < length l
  at_inside [] k e = absurd (let z : ◌≡◌ {A = ℕ} 0 1 = cc in let q : ⊥ = omega arith in q)
  at_inside (x ∷ l) zero e = omega arith
  at_inside (x ∷ l) (suc k) e = let h = at_inside l k e in omega arith

  pub at_get_d : (l : List A) (k : ℕ) (d : A) {a : A} → get_elem? l k ≡ some a → get_or l k d ≡ a
  at_get_d [] k d e = cc
  at_get_d (x ∷ l) zero d e = cc
  at_get_d (x ∷ l) (suc k) d e = at_get_d l k d e

  pub at_drop : (l : List A) (k : ℕ) {a : A} → get_elem? l k ≡ some a → drop k l ≡ a ∷ drop (suc k) l
  at_drop [] k e = cc
  at_drop (x ∷ l) zero e = cc
  at_drop (x ∷ l) (suc k) e = at_drop l k e

  pub at_some : (l : List A) (k : ℕ) → k < length l → (a : A) × (get_elem? l k ≡ some a)
  at_some [] k h = absurd (let q : ⊥ = omega arith in q)
  at_some (x ∷ l) zero h = (x, refl)
  at_some (x ∷ l) (suc k) h = at_some l k (omega arith)

  pub every_at : {P : A → Type 0} {l : List A} → Every P l → (k : ℕ) {a : A} → get_elem? l k ≡ some a → P a
  every_at none k e = absurd (let z : ◌≡◌ {A = ℕ} 0 1 = cc in let q : ⊥ = omega arith in q)
  every_at {P = P} (first {a} p x) zero {a = b} e = let i : a ≡ b = cc in rw i at p
  every_at (first p x) (suc k) e = every_at x k e

pub at_map : {A B : Type 0} (f : A → B) (l : List A) (k : ℕ) {a : A} → get_elem? l k ≡ some a → get_elem? (map f l) k ≡ some (f a)
at_map f [] k e = cc
at_map f (x ∷ l) zero e = cc
at_map f (x ∷ l) (suc k) e = at_map f l k e

pub length_name_rows : (n : ℕ) (l : List ℕ) → length (name_rows_in n l) ≡ n
length_name_rows zero l = refl
length_name_rows (suc n) l = ap suc (length_name_rows n (drop 2 l))

pub length_qname_rows : (n : ℕ) (l : List ℕ) → length (qname_rows_in n l) ≡ n
length_qname_rows zero l = refl
length_qname_rows (suc n) l = ap suc (length_qname_rows n (drop 3 l))

pub length_event_rows : (n : ℕ) (l : List ℕ) → length (event_rows_in n l) ≡ n
length_event_rows zero l = refl
length_event_rows (suc n) l = ap suc (length_event_rows n (drop 4 l))

pub name_row_at : (n : ℕ) (l : List ℕ) (k : ℕ) → k < n → get_elem? (name_rows_in n l) k ≡ some (name_row (get_or l (2 * k) 0) (get_or l (2 * k + 1) 0))
name_row_at zero l k h = absurd (let q : ⊥ = omega arith in q)
name_row_at (suc n) l zero h = refl
name_row_at (suc n) l (suc k) h =
    let e : 2 * suc k ≡ 2 + 2 * k = omega arith in
    let e' : 2 * suc k + 1 ≡ 2 + (2 * k + 1) = omega arith in
    rw (e', e, ← get_or-drop 2 l (2 * k) 0, ← get_or-drop 2 l (2 * k + 1) 0) (name_row_at n (drop 2 l) k (omega arith))

pub qname_row_at : (n : ℕ) (l : List ℕ) (k : ℕ) → k < n
    → get_elem? (qname_rows_in n l) k ≡ some (qname_row (get_or l (qname_width * k) 0) (get_or l (qname_width * k + 1) 0) (get_or l (qname_width * k + 2) 0))
qname_row_at zero l k h = absurd (let q : ⊥ = omega arith in q)
qname_row_at (suc n) l zero h = refl
qname_row_at (suc n) l (suc k) h =
    let e : qname_width * suc k ≡ 3 + qname_width * k = omega arith in
    let e' : qname_width * suc k + 1 ≡ 3 + (qname_width * k + 1) = omega arith in
    let e'' : qname_width * suc k + 2 ≡ 3 + (qname_width * k + 2) = omega arith in
    rw (e'', e', e, ← get_or-drop 3 l (qname_width * k) 0, ← get_or-drop 3 l (qname_width * k + 1) 0, ← get_or-drop 3 l (qname_width * k + 2) 0) (qname_row_at n (drop 3 l) k (omega arith))

pub event_row_at : (n : ℕ) (l : List ℕ) (k : ℕ) → k < n
    → get_elem? (event_rows_in n l) k ≡ some (event (get_or l (event_width * k) 0) (get_or l (event_width * k + 1) 0) (get_or l (event_width * k + 2) 0) (get_or l (event_width * k + 3) 0))
event_row_at zero l k h = absurd (let q : ⊥ = omega arith in q)
event_row_at (suc n) l zero h = refl
event_row_at (suc n) l (suc k) h =
    let e : event_width * suc k ≡ 4 + event_width * k = omega arith in
    let e₁ : event_width * suc k + 1 ≡ 4 + (event_width * k + 1) = omega arith in
    let e₂ : event_width * suc k + 2 ≡ 4 + (event_width * k + 2) = omega arith in
    let e₃ : event_width * suc k + 3 ≡ 4 + (event_width * k + 3) = omega arith in
    rw (e₃, e₂, e₁, e, ← get_or-drop 4 l (event_width * k) 0, ← get_or-drop 4 l (event_width * k + 1) 0, ← get_or-drop 4 l (event_width * k + 2) 0, ← get_or-drop 4 l (event_width * k + 3) 0)
    (event_row_at n (drop 4 l) k (omega arith))

pub event_rows_from : (n : ℕ) (l : List ℕ) (k : ℕ) → k < n
    → drop k (event_rows_in n l) ≡ event (get_or l (event_width * k) 0) (get_or l (event_width * k + 1) 0) (get_or l (event_width * k + 2) 0) (get_or l (event_width * k + 3) 0) ∷ drop (suc k) (event_rows_in n l)
event_rows_from n l k h = at_drop (event_rows_in n l) k (event_row_at n l k h)

-- rows laid over the front of a table are the rows in it
pub name_rows_back : (rows : List NameRow) (l : List ℕ) → name_rows_in (length rows) (overlay (flat_names rows) l) ≡ rows
name_rows_back rows l = back rows (drop (length (flat_names rows)) l)
  where
    back : (rows : List NameRow) (t : List ℕ) → name_rows_in (length rows) (flat_names rows ++ t) ≡ rows
    back [] t = refl
    back (r ∷ rows) t = ap (λ (x : List NameRow). r ∷ x) (back rows t)

pub qname_rows_back : (rows : List QnameRow) (l : List ℕ) → qname_rows_in (length rows) (overlay (flat_qnames rows) l) ≡ rows
qname_rows_back rows l = back rows (drop (length (flat_qnames rows)) l)
  where
    back : (rows : List QnameRow) (t : List ℕ) → qname_rows_in (length rows) (flat_qnames rows ++ t) ≡ rows
    back [] t = refl
    back (r ∷ rows) t = ap (λ (x : List QnameRow). r ∷ x) (back rows t)

pub event_rows_back : (rows : List EventRow) (l : List ℕ) → event_rows_in (length rows) (overlay (flat_events rows) l) ≡ rows
event_rows_back rows l = back rows (drop (length (flat_events rows)) l)
  where
    back : (rows : List EventRow) (t : List ℕ) → event_rows_in (length rows) (flat_events rows ++ t) ≡ rows
    back [] t = refl
    back (r ∷ rows) t = ap (λ (x : List EventRow). r ∷ x) (back rows t)

-- the text of each row of names that fits is inside the document
pub names_inside : {doc names : List ℕ} {rows : ℕ} → rows ≤ 1024 → 2 * rows ≤ length names → length doc ≤ 65536
    → Every (NameFits (length doc)) (name_rows_in rows names) → NamesInside doc names rows
names_inside {names = names} {rows} a b c d =
    record { few = a; long = b; short = c; inside = λ k h. (every_at d k (name_row_at rows names k h)).inside }
