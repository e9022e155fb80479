-- Laws of spellings: the value read is the one spelled; the shortest spelling, its length, and reading it back; no spelling
-- of a value is shorter. Each is proved once, over the number of bytes. Assumes nothing.
use Prim.Native.Nat.{ℕ, zero, suc, ◌+◌, ◌-◌, ◌*◌, ◌/◌, ◌%◌, ◌^◌, ◌≤◌, ◌<◌}
use mathlib.Core.Path.{◌≡◌, refl, sym, ◌∙◌, ap}
use mathlib.Core.Bool.{Bool, true, false, cond}
use mathlib.Core.List.{List, [], ◌∷◌, ◌++◌}
use native.Mathlib.Decide.{dec_lt}
use native.Mathlib.Nat.{pow-suc}
use native.Mathlib.Omega.{arith}
use lib.ListN.{length, drop}
use borrow.Author.Tests.{ltb-true, ltb-false, leb-true}
use lib.Dec.{ltb, leb}
use Rattle.sequences.specs.Lists.{Bytes}
use Rattle.sequences.proofs.Units.{bytes_first, bytes_rest}
use Rattle.sequences.proofs.Tests.{tests}
use Rattle.std.specs.Prelude.{Ok, Err}
use Rattle.token.specs.Tokens.{largest}
use Rattle.token.specs.Faults.{refusal}
use Rattle.token.specs.declared.Fault.TheVariants.{BadNumber}
use Rattle.number.specs.declared.Number.{Number}
use Rattle.number.specs.Number.{Spelling, low, high, value_of, NumberFront, spelled, unended, cut, after, front, number, number_judged, number_at, spell_in, shortest, size_of}

-- reading a spelling gives its value and uses its bytes, whatever follows
pub reads_spelling : {most : ℕ} {s : List ℕ} (w : List ℕ) → Spelling most s → front most (s ++ w) ≡ spelled (value_of s) (length s)
unfolding front
reads_spelling w (low {b = b} h) = let e : b % 128 + 128 * 0 ≡ b = omega arith in simp (tests, h, e)
reads_spelling w (high {b = b} h k s) = rw (reads_spelling w s) (simp (tests, h))

-- a spelling at the front of some bytes, and what follows it
pub record Begins (most : ℕ) (l : List ℕ) (value size : ℕ) : Type 0 where
  pub spelling : List ℕ
  pub rest : List ℕ
  pub whole : l ≡ spelling ++ rest
  pub is : Spelling most spelling
  pub says : value_of spelling ≡ value
  pub has : length spelling ≡ size

-- the value read is the one spelled
pub value_spelled : (most : ℕ) (l : List ℕ) {value size : ℕ} → Bytes l → front most l ≡ spelled value size → Begins most l value size
unfolding front
value_spelled zero l b e = absurd (let z : ◌≡◌ {A = ℕ} 0 1 = cc in let q : ⊥ = omega arith in q)
value_spelled (suc most) [] b e = absurd (let z : ◌≡◌ {A = ℕ} 0 1 = cc in let q : ⊥ = omega arith in q)
value_spelled (suc most) (x ∷ l) {value} {size} b e =
    go (ltb x 128) (ltb-true x 128) (ltb-false x 128) (front most l) (λ v n h. value_spelled most l (bytes_rest b) h) refl e
  where
    go : (t : Bool) → (t ≡ true → x < 128) → (t ≡ false → 128 ≤ x) → (f : NumberFront)
        → ((v n : ℕ) → front most l ≡ spelled v n → Begins most l v n) → front most l ≡ f
        → cond t (spelled x 1) (after x f) ≡ spelled value size → Begins (suc most) (x ∷ l) value size
    go true y n f again h e =
        let k : x < 128 = y refl in
        let v : x ≡ value = cc in
        let s : 1 ≡ size = cc in
        record { spelling = x ∷ []; rest = l; whole = refl; is = low k; says = (let z : x % 128 + 128 * 0 ≡ x = omega arith in z) ∙ v; has = s }
    go false y n (spelled v m) again h e =
        let r = again v m h in
        let a : x % 128 + 128 * v ≡ value = cc in
        let s : suc m ≡ size = cc in
        record {
          spelling = x ∷ r.spelling;
          rest = r.rest;
          whole = ap (λ (k : List ℕ). x ∷ k) r.whole;
          is = high (n refl) (bytes_first b) r.is;
          says = ap (λ (k : ℕ). x % 128 + 128 * k) r.says ∙ a;
          has = ap suc r.has ∙ s;
        }
    go false y n unended again h e = absurd (let z : ◌≡◌ {A = ℕ} 0 1 = cc in let q : ⊥ = omega arith in q)
    go false y n cut again h e = absurd (let z : ◌≡◌ {A = ℕ} 0 1 = cc in let q : ⊥ = omega arith in q)

-- what a document has where a number was read: a spelling of its value, up to the place after it
pub number_spelled : (most : ℕ) (doc : List ℕ) (at : ℕ) {value next : ℕ} → Bytes (drop at doc) → number_at most doc at ≡ Ok (number value next)
    → Begins most (drop at doc) value (next - at) × (value ≤ largest) × (at ≤ next)
unfolding number_at
number_spelled most doc at {value} {next} b e = go (front most (drop at doc)) (λ v n h. value_spelled most (drop at doc) b h) refl e
  where
    in_bounds : (t : Bool) (v n : ℕ) → t ≡ leb v largest → Begins most (drop at doc) v n → cond t (Ok (number v (at + n))) (Err (refusal BadNumber at)) ≡ Ok (number value next)
        → Begins most (drop at doc) value (next - at) × (value ≤ largest) × (at ≤ next)
    in_bounds true v n t r e =
        let i : number v (at + n) ≡ number value next = cc in
        let a : v ≡ value = ap (λ (k : Number). k.value) i in
        let p : at + n ≡ next = ap (λ (k : Number). k.next) i in
        let s : n ≡ next - at = omega arith in
        (rw (a, s) at r, rw (← a) (leb-true v largest (sym t)), omega arith)
    in_bounds false v n t r e = absurd (let z : ◌≡◌ {A = ℕ} 0 1 = cc in let q : ⊥ = omega arith in q)

    go : (f : NumberFront) → ((v n : ℕ) → front most (drop at doc) ≡ spelled v n → Begins most (drop at doc) v n) → front most (drop at doc) ≡ f
        → number_judged doc at f ≡ Ok (number value next) → Begins most (drop at doc) value (next - at) × (value ≤ largest) × (at ≤ next)
    go (spelled v n) again h e = in_bounds (leb v largest) v n refl (again v n h) e
    go unended again h e = absurd (let z : ◌≡◌ {A = ℕ} 0 1 = cc in let q : ⊥ = omega arith in q)
    go cut again h e = absurd (let z : ◌≡◌ {A = ℕ} 0 1 = cc in let q : ⊥ = omega arith in q)

-- a spelling is one too where more bytes are allowed
pub allowed_more : {n : ℕ} (m : ℕ) {s : List ℕ} → Spelling n s → n ≤ m → Spelling m s
allowed_more zero (low h) l = absurd (let q : ⊥ = omega arith in q)
allowed_more zero (high h k s) l = absurd (let q : ⊥ = omega arith in q)
allowed_more (suc m) (low h) l = low h
allowed_more (suc m) (high h k s) l = high h k (allowed_more m s (omega arith))

-- the shortest spelling is one
spell_in_spells : (k value : ℕ) → value < 128 ^ suc k → Spelling (suc k) (spell_in (suc k) value)
unfolding spell_in
spell_in_spells zero value h = let l : value < 128 = h in simp (tests, l) (low l)
spell_in_spells (suc k) value h = go (λ v l. spell_in_spells k v l) (dec_lt value 128)
  where
    go : ((value : ℕ) → value < 128 ^ suc k → Spelling (suc k) (spell_in (suc k) value)) → Dec (value < 128) → Spelling (suc (suc k)) (spell_in (suc (suc k)) value)
    go again (yes l) = simp (tests, l) (low l)
    go again (no l) =
        let g : 128 ≤ value = omega arith in
        let p = pow-suc 128 (suc k) in
        let v : value / 128 < 128 ^ suc k = omega arith in
        simp (tests, g) (high {b = 128 + value % 128} (omega arith) (omega arith) (again (value / 128) v))

-- its value is the value spelled
spell_in_value : (k value : ℕ) → value < 128 ^ suc k → value_of (spell_in (suc k) value) ≡ value
unfolding spell_in
spell_in_value zero value h = let l : value < 128 = h in simp (tests, l) (omega arith)
spell_in_value (suc k) value h = go (λ v l. spell_in_value k v l) (dec_lt value 128)
  where
    go : ((value : ℕ) → value < 128 ^ suc k → value_of (spell_in (suc k) value) ≡ value) → Dec (value < 128) → value_of (spell_in (suc (suc k)) value) ≡ value
    go again (yes l) = simp (tests, l) (omega arith)
    go again (no l) =
        let g : 128 ≤ value = omega arith in
        let p = pow-suc 128 (suc k) in
        let v : value / 128 < 128 ^ suc k = omega arith in
        let i = again (value / 128) v in
        simp (tests, g) (rw i (omega arith))

-- no spelling of a value is shorter
spell_in_shortest : (k : ℕ) {most : ℕ} {s : List ℕ} → Spelling most s → length (spell_in k (value_of s)) ≤ length s
unfolding spell_in
spell_in_shortest zero s = omega arith
spell_in_shortest (suc k) (low {b = b} h) =
    let e : b % 128 + 128 * 0 ≡ b = omega arith in
    rw e (simp (tests, h) (omega arith))
spell_in_shortest (suc k) (high {b = b} {s = s} h g t) = go (spell_in_shortest k t) (dec_lt (b % 128 + 128 * value_of s) 128)
  where
    go : length (spell_in k (value_of s)) ≤ length s → Dec (b % 128 + 128 * value_of s < 128) → length (spell_in (suc k) (b % 128 + 128 * value_of s)) ≤ suc (length s)
    go i (yes l) = simp (tests, l) (omega arith)
    go i (no l) =
        let n : 128 ≤ b % 128 + 128 * value_of s = omega arith in
        let e : (b % 128 + 128 * value_of s) / 128 ≡ value_of s = omega arith in
        simp (tests, n, e) (omega arith)

-- the shortest spelling: a spelling of at most five bytes, of this value, and none is shorter
pub shortest_spells : (value : ℕ) → value ≤ largest → Spelling 5 (shortest value)
unfolding shortest
shortest_spells value h = spell_in_spells 4 value (omega arith)

pub shortest_value : (value : ℕ) → value ≤ largest → value_of (shortest value) ≡ value
unfolding shortest
shortest_value value h = spell_in_value 4 value (omega arith)

pub none_shorter : {most : ℕ} {s : List ℕ} → Spelling most s → length (shortest (value_of s)) ≤ length s
unfolding shortest
none_shorter s = spell_in_shortest 5 s

last_byte : (t : Bool) (a b : ℕ) → length (cond t (a ∷ []) (b ∷ [])) ≡ 1
last_byte true a b = refl
last_byte false a b = refl

-- its length is that of 004's table
pub shortest_size : (value : ℕ) → length (shortest value) ≡ size_of value
unfolding shortest spell_in size_of
shortest_size value = go (dec_lt value 0x80) (dec_lt value 0x4000) (dec_lt value 0x200000) (dec_lt value 0x10000000)
  where
    go : Dec (value < 0x80) → Dec (value < 0x4000) → Dec (value < 0x200000) → Dec (value < 0x10000000) → length (shortest value) ≡ size_of value
    go (yes a) b c d = simp (tests, a)
    go (no a) (yes b) c d =
        let a1 : 0x80 ≤ value = omega arith in
        let b1 : value / 128 < 128 = omega arith in
        simp (tests, a1, b, b1)
    go (no a) (no b) (yes c) d =
        let a1 : 0x80 ≤ value = omega arith in
        let b1 : 128 ≤ value / 128 = omega arith in
        let b2 : 0x4000 ≤ value = omega arith in
        let c1 : value / 128 / 128 < 128 = omega arith in
        simp (tests, a1, b1, b2, c, c1)
    go (no a) (no b) (no c) (yes d) =
        let a1 : 0x80 ≤ value = omega arith in
        let b1 : 128 ≤ value / 128 = omega arith in
        let b2 : 0x4000 ≤ value = omega arith in
        let c1 : 128 ≤ value / 128 / 128 = omega arith in
        let c2 : 0x200000 ≤ value = omega arith in
        let d1 : value / 128 / 128 / 128 < 128 = omega arith in
        simp (tests, a1, b1, b2, c1, c2, d, d1)
    go (no a) (no b) (no c) (no d) =
        let a1 : 0x80 ≤ value = omega arith in
        let b1 : 128 ≤ value / 128 = omega arith in
        let b2 : 0x4000 ≤ value = omega arith in
        let c1 : 128 ≤ value / 128 / 128 = omega arith in
        let c2 : 0x200000 ≤ value = omega arith in
        let d1 : 128 ≤ value / 128 / 128 / 128 = omega arith in
        let d2 : 0x10000000 ≤ value = omega arith in
        simp (tests, a1, b1, b2, c1, c2, d1, d2, last_byte)

-- reading the shortest spelling gives the value back and uses exactly its bytes
pub shortest_read : (most : ℕ) (doc : List ℕ) (at value : ℕ) (rest : List ℕ) → 5 ≤ most → value ≤ largest → drop at doc ≡ shortest value ++ rest
    → number_at most doc at ≡ Ok (number value (at + length (shortest value)))
unfolding number_at
shortest_read most doc at value rest m h e =
    let s = reads_spelling rest (allowed_more most (shortest_spells value h) m) in
    let v = shortest_value value h in
    rw (e, s, v) (simp (tests, h))
