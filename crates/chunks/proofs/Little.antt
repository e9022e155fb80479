-- Little-endian numbers: the loop that reads one, and a number cut into limbs of four bytes. Assumes nothing.
use Prim.Native.Nat.{ℕ, zero, suc, ◌+◌, ◌-◌, ◌*◌, ◌^◌, ◌≤◌, ◌<◌}
use mathlib.Core.Path.{◌≡◌, refl, sym, ◌∙◌, ap}
use mathlib.Core.List.{List, [], ◌∷◌, ◌++◌, append_assoc, append-nil}
use native.Mathlib.Nat.{pow-succ', pow-le-pow_right, mul_assoc, mul-zero}
use native.Mathlib.Omega.{arith}
use lib.ListN.{length, take, drop, length-append, length-drop, drop_of_length-le}
use lib.Dec.{lit<}
use Rattle.std.specs.List.{push}
use lib.Seq.{slice, take-add, take_all, drop_at, drop-drop, length-take-le}
use Rattle.sequences.specs.Lists.{Bytes, part, little}
use Rattle.sequences.proofs.Units.{bytes_first, bytes_rest, bytes_take, bytes_drop}

-- ---- the loop: the bytes `done` are read from the end, those of `rest` are left

bytes_after : (a : List ℕ) {l : List ℕ} → Bytes (a ++ l) → Bytes l
bytes_after [] h = h
bytes_after (x ∷ a) h = bytes_after a (bytes_rest h)

pub record Summed (bytes rest : List ℕ) (v : ℕ) : Type 0 where
  pub done : List ℕ
  pub split : rest ++ done ≡ bytes
  pub is : v ≡ little done
  pub less : v < 256 ^ length done

pub summed_start : {bytes rest : List ℕ} → rest ≡ bytes → Summed bytes rest 0
summed_start {rest = rest} e = record { done = []; split = append-nil rest ∙ e; is = refl; less = lit< tt }

module _ {bytes rest : List ℕ} {v : ℕ} (s : Summed bytes rest v) (w : length bytes ≤ 8) (each : Bytes bytes) (left : List ℕ) (b : ℕ)
    (e : rest ≡ push left b) where
  whole : left ++ (b ∷ s.done) ≡ bytes
  whole = sym (append_assoc left (b ∷ []) s.done) ∙ rw e at s.split

  byte : b < 256
  byte = bytes_first (bytes_after left (rw (← whole) at each))

  wide_enough : 256 * 256 ^ length s.done ≤ 2 ^ 64
  wide_enough =
      let n : length (left ++ (b ∷ s.done)) ≡ length bytes = ap length whole in
      let m = length-append left (b ∷ s.done) in
      let k : suc (length s.done) ≤ 8 = omega arith in
      let q : 256 ^ suc (length s.done) ≤ 256 ^ 8 = pow-le-pow_right {n = 256} (omega arith) k in
      rw (pow-succ' 256 (length s.done)) at q

  pub summed_mul : v * 256 < 2 ^ 64
  summed_mul = let q = wide_enough in let l = s.less in omega arith

  pub summed_add : v * 256 + b < 2 ^ 64
  summed_add = let k = byte in let q = wide_enough in let l = s.less in omega arith

  pub summed_next : Summed bytes left (v * 256 + b)
  summed_next =
      let k = byte in
      let l = s.less in
      record { done = b ∷ s.done; split = whole; is = rw (← s.is) (omega arith); less = rw pow-succ' (omega arith) }

pub summed_end : {bytes rest : List ℕ} {v : ℕ} → Summed bytes rest v → length rest ≡ 0 → (v ≡ little bytes) × (v < 256 ^ length bytes)
summed_end {rest = []} s e = (rw s.split at s.is, rw s.split at s.less)
summed_end {rest = x ∷ rest} s e = absurd (let q : ⊥ = omega arith in q)

-- the part p[from..to]
pub part_slice : (p : List ℕ) (from to : ℕ) → from ≤ to → to ≤ length p → part p from (to - from) ≡ slice from to p
part_slice p from to h k =
    let z : from + (to - from) ≡ to = omega arith in
    let fits = length-take-le from p (omega arith) in
    sym (rw z at (ap (λ (x : List ℕ). drop from x) (take-add from (to - from) p) ∙ drop_at (take from p) (part p from (to - from)) from fits))

pub part_long : (p : List ℕ) (from to : ℕ) → from ≤ to → to ≤ length p → length (part p from (to - from)) ≡ to - from
part_long p from to h k = length-take-le (to - from) (drop from p) (let e = length-drop from p in omega arith)

pub part_bytes : {p : List ℕ} (from to : ℕ) → Bytes p → Bytes (part p from (to - from))
part_bytes from to h = bytes_take (to - from) (bytes_drop from h)

-- ---- limbs of four bytes

-- the low k bytes, and those above them
pub little_split : (k : ℕ) (l : List ℕ) → little l ≡ little (take k l) + 256 ^ k * little (drop k l)
little_split zero l = omega arith
little_split (suc k) [] = rw mul-zero
little_split (suc k) (b ∷ l) =
    rw (little_split k l, pow-succ') (far b (little (take k l)) (256 ^ k) (little (drop k l)))
  where
    far : (b x q y : ℕ) → b + 256 * (x + q * y) ≡ b + 256 * x + 256 * q * y
    far b x q y = rw (mul_assoc 256 q y) (omega arith)

pub limb_within : (n from skip : ℕ) → from ≤ n → skip + 4 ≤ n - from
    → (from + skip ≤ from + skip + 4) × (from + skip + 4 ≤ n) × (from + skip + 4 ≤ from + skip + 8)
limb_within n from skip h k = (omega arith, omega arith, omega arith)

pub limb_there : (p : List ℕ) (from skip : ℕ) {v : ℕ} → from ≤ length p → skip + 4 ≤ length p - from
    → v ≡ little (slice (from + skip) (from + skip + 4) p) → v < 256 ^ (from + skip + 4 - (from + skip))
    → (v ≡ little (take 4 (drop skip (drop from p)))) × (v < 4294967296)
limb_there p from skip h k e f =
    let z : from + skip + 4 - (from + skip) ≡ 4 = omega arith in
    let fits = length-take-le (from + skip) p (omega arith) in
    let s : slice (from + skip) (from + skip + 4) p ≡ take 4 (drop (from + skip) p) =
    ap (λ (x : List ℕ). drop (from + skip) x) (take-add (from + skip) 4 p)
    ∙ drop_at (take (from + skip) p) (take 4 (drop (from + skip) p)) (from + skip) fits in
    (rw drop-drop (e ∙ ap little s), rw z at f)

pub limb_none : (p : List ℕ) (from skip : ℕ) → length p - from ≤ skip
    → (0 ≡ little (take 4 (drop skip (drop from p)))) × (0 < 4294967296)
limb_none p from skip h =
    let k : length (drop from p) ≤ skip = simp length-drop h in
    (rw (drop_of_length-le (drop from p) k), omega arith)

pub limbs_joined : (p : List ℕ) (from : ℕ) {a b c d : ℕ} → length p ≤ from + 16
    → a ≡ little (take 4 (drop 0 (drop from p))) → b ≡ little (take 4 (drop 4 (drop from p)))
    → c ≡ little (take 4 (drop 8 (drop from p))) → d ≡ little (take 4 (drop 12 (drop from p)))
    → a + 4294967296 * (b + 4294967296 * (c + 4294967296 * d)) ≡ little (drop from p)
limbs_joined p from h ea eb ec ed =
    let l = drop from p in
    let short : length (drop 12 l) ≤ 4 = simp length-drop (omega arith) in
    rw (little_split 4 l, step 4, step 8, ← take_all 4 (drop 12 l) short, ea, eb, ec, ed)
  where
    step : (k : ℕ)
        → little (drop k (drop from p)) ≡ little (take 4 (drop k (drop from p))) + 4294967296 * little (drop (k + 4) (drop from p))
    step k = rw (← drop-drop 4 k (drop from p)) (little_split 4 (drop k (drop from p)))
