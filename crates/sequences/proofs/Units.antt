-- Laws of bytes, little-endian numbers and UTF-16LE units. Assumes nothing.
use Prim.Native.Nat.{ℕ, zero, suc, ◌+◌, ◌*◌, ◌/◌, ◌%◌, ◌^◌, ◌≤◌, ◌<◌}
use mathlib.Core.Path.{◌≡◌, refl, ap}
use mathlib.Core.List.{List, [], ◌∷◌, ◌++◌}
use native.Mathlib.Nat.{pow-suc}
use native.Mathlib.Omega.{arith}
use lib.ListN.{length, get_or, take, drop, length-drop}
use lib.Seq.{drop-cons}
use lib.Dec.{lit<}
use Rattle.sequences.specs.Lists.{Bytes, little, bytes_of, units_of}

pub bytes_rest : {b : ℕ} {l : List ℕ} → Bytes (b ∷ l) → Bytes l
bytes_rest h = record { each = λ k. h.each (suc k) }

pub bytes_first : {b : ℕ} {l : List ℕ} → Bytes (b ∷ l) → b < 256
bytes_first h = h.each 0

pub bytes_cons : {b : ℕ} {l : List ℕ} → b < 256 → Bytes l → Bytes (b ∷ l)
bytes_cons {b} {l} f h = record { each = go }
  where
    go : (k : ℕ) → get_or (b ∷ l) k 0 < 256
    go zero = f
    go (suc k) = h.each k

pub bytes_none : Bytes []
bytes_none = record { each = λ k. lit< tt }

pub bytes_drop : (n : ℕ) {l : List ℕ} → Bytes l → Bytes (drop n l)
bytes_drop zero h = h
bytes_drop (suc n) {l = []} h = h
bytes_drop (suc n) {l = b ∷ l} h = bytes_drop n (bytes_rest h)

pub bytes_take : (n : ℕ) {l : List ℕ} → Bytes l → Bytes (take n l)
bytes_take zero h = bytes_none
bytes_take (suc n) {l = []} h = h
bytes_take (suc n) {l = b ∷ l} h = bytes_cons (bytes_first h) (bytes_take n (bytes_rest h))

pub bytes_append : {a b : List ℕ} → Bytes a → Bytes b → Bytes (a ++ b)
bytes_append {a = []} f g = g
bytes_append {a = x ∷ a} f g = bytes_cons (bytes_first f) (bytes_append (bytes_rest f) g)

pub length_bytes_of : (us : List ℕ) → length (bytes_of us) ≡ 2 * length us
length_bytes_of [] = refl
length_bytes_of (u ∷ us) = let i = length_bytes_of us in omega arith

pub bytes_of_append : (us vs : List ℕ) → bytes_of (us ++ vs) ≡ bytes_of us ++ bytes_of vs
bytes_of_append [] vs = refl
bytes_of_append (u ∷ us) vs = ap (λ (l : List ℕ). u % 256 ∷ u / 256 ∷ l) (bytes_of_append us vs)

-- units of an even number of bytes say those bytes
pub bytes_of_units_of : (l : List ℕ) → Bytes l → length l % 2 ≡ 0 → bytes_of (units_of l) ≡ l
bytes_of_units_of [] h e = refl
bytes_of_units_of (a ∷ []) h e = absurd (let q : ⊥ = omega arith in q)
bytes_of_units_of (a ∷ b ∷ l) h e =
    let i = bytes_of_units_of l (bytes_rest (bytes_rest h)) (let z : length l % 2 ≡ 0 = omega arith in z) in
    let fa : a < 256 = bytes_first h in
    let fb : b < 256 = bytes_first (bytes_rest h) in
    let lo : (a + 256 * b) % 256 ≡ a = omega arith in
    let hi : (a + 256 * b) / 256 ≡ b = omega arith in
    rw (lo, hi, i)

-- a number of so many bytes is below 256 to their count
pub little_below : (l : List ℕ) → Bytes l → little l < 256 ^ length l
little_below [] h = omega arith
little_below (b ∷ l) h =
    let i = little_below l (bytes_rest h) in
    let f = bytes_first h in
    let p = pow-suc 256 (length l) in
    omega arith

-- ---- units of bytes, one after the other

units_step : (s : List ℕ) (i : ℕ) → i + 1 < length s → units_of (drop i s) ≡ (get_or s i 0 + 256 * get_or s (i + 1) 0) ∷ units_of (drop (i + 2) s)
units_step s i h =
    let a : i < length s = omega arith in
    let b : suc i < length s = omega arith in
    let e : i + 1 ≡ suc i = omega arith in
    let f : i + 2 ≡ suc (suc i) = omega arith in
    rw (e, f, drop-cons s i 0 a, drop-cons s (suc i) 0 b)

units_short : (l : List ℕ) → length l ≤ 1 → units_of l ≡ []
units_short [] h = refl
units_short (x ∷ []) h = refl
units_short (x ∷ y ∷ l) h = absurd (let q : ⊥ = omega arith in q)

units_end : (s : List ℕ) (i : ℕ) → length s ≤ i + 1 → units_of (drop i s) ≡ []
units_end s i h = units_short (drop i s) (simp length-drop (omega arith))

-- two bytes make a unit
pub units_long : (l : List ℕ) → (2 * length (units_of l) ≤ length l) × (length l ≤ 2 * length (units_of l) + 1)
units_long [] = (omega arith, omega arith)
units_long (x ∷ []) = (omega arith, omega arith)
units_long (x ∷ y ∷ l) = let i = units_long l in (omega (arith, i.0), omega (arith, i.1))

-- unit by unit
module _ (s : List ℕ) (k n : ℕ) (e : n ≡ length s / 2) where
  pub unit_step : k < n → (u : ℕ) → u ≡ get_or s (2 * k) 0 + 256 * get_or s (2 * k + 1) 0 → units_of (drop (2 * k) s) ≡ u ∷ units_of (drop (2 * (k + 1)) s)
  unit_step h u f =
      let g : 2 * (k + 1) ≡ 2 * k + 2 = omega arith in
      rw (g, f) (units_step s (2 * k) (omega arith))

  pub unit_end : n ≤ k → units_of (drop (2 * k) s) ≡ []
  unit_end h = units_end s (2 * k) (omega arith)

  pub unit_room : k < n → k < length (units_of s)
  unit_room h = let i = units_long s in omega (arith, i.1)
