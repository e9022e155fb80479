-- Meanings are equal exactly where their codes are; the codes are low numbers, and their count is that of the symbols and
-- of the bytes of values without text. Assumes nothing.
use Prim.Native.Nat.{ℕ, zero, suc, ◌+◌, ◌*◌, ◌<◌}
use mathlib.Core.Path.{◌≡◌, refl, sym, ap, ◌∙◌}
use mathlib.Core.Logic.{◌↔◌, ⊎_elim}
use mathlib.Core.List.{List, [], ◌∷◌, ◌++◌, map, append_assoc}
use mathlib.Core.Bool.{Bool, true, false}
use native.Mathlib.Omega.{arith}
use lib.ListN.{length, get_or, length-append, length-map}
use Rattle.sequences.specs.Lists.{Bytes, same, In, here, there}
use Rattle.sequences.specs.Arrays.{Every, none, first}
use Rattle.sequences.proofs.Units.{bytes_none, bytes_first, bytes_rest}
use Rattle.sequences.proofs.Same.{same_list}
use Rattle.sequences.proofs.Members.{in_none, in_cons, in_either}
use Rattle.meaning.specs.Meaning.{Symbol, unit, opening, ending, attribute, closing, value, qname, same_meaning, pairs_of}
use Rattle.meaning.specs.Codes.{mark, both, code_of, codes_of, symbol_size, symbol_sizes, Classes, Coded}
use Rattle.meaning.proofs.Same.{same_meaning_lem}
use Rattle.meaning.proofs.Exact.{pairs_map}

-- ---- a code is a first number, and the bytes of a value without text

abbrev lead : (List ℕ → ℕ) → Symbol → ℕ
lead cls x = get_or (code_of cls x) 0 0

abbrev bytes : Symbol → List ℕ
bytes (unit u) = []
bytes (opening uri local) = []
bytes (attribute uri local) = []
bytes (qname uri local) = []
bytes ending = []
bytes closing = []
bytes (value token payload) = payload

code_is : (cls : List ℕ → ℕ) (x : Symbol) → code_of cls x ≡ lead cls x ∷ map (mark 6) (bytes x)
code_is cls (unit u) = refl
code_is cls (opening uri local) = refl
code_is cls (attribute uri local) = refl
code_is cls (qname uri local) = refl
code_is cls ending = refl
code_is cls closing = refl
code_is cls (value token payload) = refl

codes_none : (cls : List ℕ → ℕ) → codes_of cls [] ≡ []
unfolding codes_of
codes_none cls = refl

codes_cons : (cls : List ℕ → ℕ) (x : Symbol) (l : List Symbol) → codes_of cls (x ∷ l) ≡ lead cls x ∷ (map (mark 6) (bytes x) ++ codes_of cls l)
unfolding codes_of
codes_cons cls x l = ap (λ (c : List ℕ). c ++ codes_of cls l) (code_is cls x)

-- a list does not begin with a byte of a value
abbrev NoByte : List ℕ → Type 0
NoByte [] = Unit
NoByte (x ∷ l) = (b : ℕ) → x ≡ mark 6 b → ⊥

mark_same : (k a b : ℕ) → mark k a ≡ mark k b → a ≡ b
unfolding mark
mark_same k a b e = omega arith

-- the bytes end where another symbol begins
bytes_split : (p q r s : List ℕ) → NoByte r → NoByte s → map (mark 6) p ++ r ≡ map (mark 6) q ++ s → (p ≡ q) × (r ≡ s)
bytes_split [] [] r s f g e = (refl, e)
bytes_split [] (y ∷ q) [] s f g e = absurd (let z : ◌≡◌ {A = ℕ} 0 1 = cc in let w : ⊥ = omega arith in w)
bytes_split [] (y ∷ q) (x ∷ r) s f g e = absurd (f y (cc))
bytes_split (x ∷ p) [] r [] f g e = absurd (let z : ◌≡◌ {A = ℕ} 0 1 = cc in let w : ⊥ = omega arith in w)
bytes_split (x ∷ p) [] r (y ∷ s) f g e = absurd (g x (cc))
bytes_split (x ∷ p) (y ∷ q) r s f g e =
    let h : mark 6 x ≡ mark 6 y = cc in
    let t : map (mark 6) p ++ r ≡ map (mark 6) q ++ s = cc in
    let i = bytes_split p q r s f g t in
    let a : x ≡ y = mark_same 6 x y h in
    let b : p ≡ q = i.0 in
    (cc, i.1)

every_in : {A : Type 0} {P : A → Type 0} {l : List A} {x : A} → Every P l → In x l → P x
every_in {A = A} {P = P} none x6 = elim x6 [ ]
every_in (first h hs) here = h
every_in (first h hs) (there i) = every_in hs i

alike : (s t : Bool) → (s ≡ true → t ≡ true) → (t ≡ true → s ≡ true) → s ≡ t
alike true t f g = sym (f refl)
alike false true f g = g refl
alike false false f g = refl

byte_low : (p : List ℕ) → Bytes p → (x : ℕ) → In x (map (mark 6) p) → x < 65536 + 8 * 1050625
unfolding mark
byte_low [] h x i = absurd (in_none i)
byte_low (b ∷ p) h x i = ⊎_elim
    (λ (z : x ≡ 65536 + 8 * b + 6). let t = bytes_first h in omega arith)
    (λ v. byte_low p (bytes_rest h) x v)
    (in_cons i)

each_at : (n : ℕ) → 0 < n → (l : List ℕ) → ((x : ℕ) → In x l → x < n) → (k : ℕ) → get_or l k 0 < n
each_at n z [] h k = z
each_at n z (x ∷ l) h zero = h x here
each_at n z (x ∷ l) h (suc k) = each_at n z l (λ y w. h y (there w)) k

module _ {Known : List ℕ → Type 0} (cls : List ℕ → ℕ) (c : Classes Known cls) where
  lead_no_byte : (x : Symbol) → Coded Known x → (b : ℕ) → lead cls x ≡ mark 6 b → ⊥
  unfolding mark
  lead_no_byte (unit u) h b e = omega arith
  lead_no_byte (opening uri local) h b e = omega arith
  lead_no_byte (attribute uri local) h b e = omega arith
  lead_no_byte (qname uri local) h b e = omega arith
  lead_no_byte ending h b e = omega arith
  lead_no_byte closing h b e = omega arith
  lead_no_byte (value token payload) h b e = omega arith

  codes_no_byte : (l : List Symbol) → Every (Coded Known) l → NoByte (codes_of cls l)
  codes_no_byte [] none = rw (codes_none cls) tt
  codes_no_byte (x ∷ l) (first h hs) = rw (codes_cons cls x l) (lead_no_byte x h)

  texts : (u l v m : List ℕ) → Known u × Known l → Known v × Known m → both cls u l ≡ both cls v m → (u ≡ v) × (l ≡ m)
  texts u l v m p q e =
      let a = c.small l p.1 in
      let b = c.small m q.1 in
      (c.apart u v p.0 q.0 (omega arith), c.apart l m p.1 q.1 (omega arith))

  -- a symbol is known from its first number and its bytes
  symbol_apart : (x y : Symbol) → Coded Known x → Coded Known y → lead cls x ≡ lead cls y → bytes x ≡ bytes y → x ≡ y
  unfolding mark
  symbol_apart (unit a) (unit b) h k e f = let z : a ≡ b = e in cc
  symbol_apart (unit a) (opening v m) h k e f = absurd (let z : ⊥ = omega arith in z)
  symbol_apart (unit a) ending h k e f = absurd (let z : ⊥ = omega arith in z)
  symbol_apart (unit a) (attribute v m) h k e f = absurd (let z : ⊥ = omega arith in z)
  symbol_apart (unit a) closing h k e f = absurd (let z : ⊥ = omega arith in z)
  symbol_apart (unit a) (value s r) h k e f = absurd (let z : ⊥ = omega arith in z)
  symbol_apart (unit a) (qname v m) h k e f = absurd (let z : ⊥ = omega arith in z)
  symbol_apart (opening u l) (unit b) h k e f = absurd (let z : ⊥ = omega arith in z)
  symbol_apart (opening u l) (opening v m) h k e f = let z = texts u l v m h k (omega arith) in let z0 : u ≡ v = z.0 in let z1 : l ≡ m = z.1 in cc
  symbol_apart (opening u l) ending h k e f = absurd (let z : ⊥ = omega arith in z)
  symbol_apart (opening u l) (attribute v m) h k e f = absurd (let z : ⊥ = omega arith in z)
  symbol_apart (opening u l) closing h k e f = absurd (let z : ⊥ = omega arith in z)
  symbol_apart (opening u l) (value s r) h k e f = absurd (let z : ⊥ = omega arith in z)
  symbol_apart (opening u l) (qname v m) h k e f = absurd (let z : ⊥ = omega arith in z)
  symbol_apart ending (unit b) h k e f = absurd (let z : ⊥ = omega arith in z)
  symbol_apart ending (opening v m) h k e f = absurd (let z : ⊥ = omega arith in z)
  symbol_apart ending ending h k e f = refl
  symbol_apart ending (attribute v m) h k e f = absurd (let z : ⊥ = omega arith in z)
  symbol_apart ending closing h k e f = absurd (let z : ⊥ = omega arith in z)
  symbol_apart ending (value s r) h k e f = absurd (let z : ⊥ = omega arith in z)
  symbol_apart ending (qname v m) h k e f = absurd (let z : ⊥ = omega arith in z)
  symbol_apart (attribute u l) (unit b) h k e f = absurd (let z : ⊥ = omega arith in z)
  symbol_apart (attribute u l) (opening v m) h k e f = absurd (let z : ⊥ = omega arith in z)
  symbol_apart (attribute u l) ending h k e f = absurd (let z : ⊥ = omega arith in z)
  symbol_apart (attribute u l) (attribute v m) h k e f = let z = texts u l v m h k (omega arith) in let z0 : u ≡ v = z.0 in let z1 : l ≡ m = z.1 in cc
  symbol_apart (attribute u l) closing h k e f = absurd (let z : ⊥ = omega arith in z)
  symbol_apart (attribute u l) (value s r) h k e f = absurd (let z : ⊥ = omega arith in z)
  symbol_apart (attribute u l) (qname v m) h k e f = absurd (let z : ⊥ = omega arith in z)
  symbol_apart closing (unit b) h k e f = absurd (let z : ⊥ = omega arith in z)
  symbol_apart closing (opening v m) h k e f = absurd (let z : ⊥ = omega arith in z)
  symbol_apart closing ending h k e f = absurd (let z : ⊥ = omega arith in z)
  symbol_apart closing (attribute v m) h k e f = absurd (let z : ⊥ = omega arith in z)
  symbol_apart closing closing h k e f = refl
  symbol_apart closing (value s r) h k e f = absurd (let z : ⊥ = omega arith in z)
  symbol_apart closing (qname v m) h k e f = absurd (let z : ⊥ = omega arith in z)
  symbol_apart (value t p) (unit b) h k e f = absurd (let z : ⊥ = omega arith in z)
  symbol_apart (value t p) (opening v m) h k e f = absurd (let z : ⊥ = omega arith in z)
  symbol_apart (value t p) ending h k e f = absurd (let z : ⊥ = omega arith in z)
  symbol_apart (value t p) (attribute v m) h k e f = absurd (let z : ⊥ = omega arith in z)
  symbol_apart (value t p) closing h k e f = absurd (let z : ⊥ = omega arith in z)
  symbol_apart (value t p) (value s r) h k e f = let z : t ≡ s = omega arith in cc
  symbol_apart (value t p) (qname v m) h k e f = absurd (let z : ⊥ = omega arith in z)
  symbol_apart (qname u l) (unit b) h k e f = absurd (let z : ⊥ = omega arith in z)
  symbol_apart (qname u l) (opening v m) h k e f = absurd (let z : ⊥ = omega arith in z)
  symbol_apart (qname u l) ending h k e f = absurd (let z : ⊥ = omega arith in z)
  symbol_apart (qname u l) (attribute v m) h k e f = absurd (let z : ⊥ = omega arith in z)
  symbol_apart (qname u l) closing h k e f = absurd (let z : ⊥ = omega arith in z)
  symbol_apart (qname u l) (value s r) h k e f = absurd (let z : ⊥ = omega arith in z)
  symbol_apart (qname u l) (qname v m) h k e f = let z = texts u l v m h k (omega arith) in let z0 : u ≡ v = z.0 in let z1 : l ≡ m = z.1 in cc

  codes_apart : (a b : List Symbol) → Every (Coded Known) a → Every (Coded Known) b → codes_of cls a ≡ codes_of cls b → a ≡ b
  codes_apart [] [] none none e = refl
  codes_apart [] (y ∷ b) none (first k ks) e = absurd (
      let d = sym (codes_none cls) ∙ e ∙ codes_cons cls y b in
      let z : ◌≡◌ {A = ℕ} 0 1 = cc in
      let w : ⊥ = omega arith in
      w)
  codes_apart (x ∷ a) [] (first h hs) none e = absurd (
      let d = sym (codes_none cls) ∙ sym e ∙ codes_cons cls x a in
      let z : ◌≡◌ {A = ℕ} 0 1 = cc in
      let w : ⊥ = omega arith in
      w)
  codes_apart (x ∷ a) (y ∷ b) (first h hs) (first k ks) e =
      let d = sym (codes_cons cls x a) ∙ e ∙ codes_cons cls y b in
      let f : lead cls x ≡ lead cls y = cc in
      let t : map (mark 6) (bytes x) ++ codes_of cls a ≡ map (mark 6) (bytes y) ++ codes_of cls b = cc in
      let s = bytes_split (bytes x) (bytes y) (codes_of cls a) (codes_of cls b) (codes_no_byte a hs) (codes_no_byte b ks) t in
      let i : x ≡ y = symbol_apart x y h k f s.0 in
      let j : a ≡ b = codes_apart a b hs ks s.1 in
      cc

  -- the test of two codes decides equality of the meanings
  pub codes_same : (a b : List Symbol) → Every (Coded Known) a → Every (Coded Known) b → (same (codes_of cls a) (codes_of cls b) ≡ true) ↔ (a ≡ b)
  codes_same a b h k = (
    λ e. codes_apart a b h k ((same_list (codes_of cls a) (codes_of cls b)).0 e),
    λ e. (same_list (codes_of cls a) (codes_of cls b)).1 (ap (codes_of cls) e),
  )

  -- the codes of all records have the pairs of the meanings
  pub codes_pairs : (ms : List (List Symbol)) → Every (Every (Coded Known)) ms
      → pairs_of same (map (codes_of cls) ms) ≡ pairs_of same_meaning ms
  codes_pairs ms h =
      pairs_map same_meaning same (codes_of cls) ms (λ a b v w.
      alike (same (codes_of cls a) (codes_of cls b)) (same_meaning a b)
      (λ e. (same_meaning_lem a b).1 ((codes_same a b (every_in h v) (every_in h w)).0 e))
      (λ e. (codes_same a b (every_in h v) (every_in h w)).1 ((same_meaning_lem a b).0 e)))

  lead_low : (x : Symbol) → Coded Known x → lead cls x < 65536 + 8 * 1050625
  unfolding mark
  lead_low (unit u) h = omega arith
  lead_low (opening uri local) h = omega (arith, c.small uri h.0, c.small local h.1)
  lead_low (attribute uri local) h = omega (arith, c.small uri h.0, c.small local h.1)
  lead_low (qname uri local) h = omega (arith, c.small uri h.0, c.small local h.1)
  lead_low ending h = omega arith
  lead_low closing h = omega arith
  lead_low (value token payload) h = omega (arith, h.0)

  bytes_of : (x : Symbol) → Coded Known x → Bytes (bytes x)
  bytes_of (unit u) h = bytes_none
  bytes_of (opening uri local) h = bytes_none
  bytes_of (attribute uri local) h = bytes_none
  bytes_of (qname uri local) h = bytes_none
  bytes_of ending h = bytes_none
  bytes_of closing h = bytes_none
  bytes_of (value token payload) h = h.1

  -- each number of a code is below 2^32
  pub codes_low : (l : List Symbol) → Every (Coded Known) l → (x : ℕ) → In x (codes_of cls l) → x < 65536 + 8 * 1050625
  codes_low [] none x i = absurd (in_none (rw codes_none at i))
  codes_low (s ∷ l) (first h hs) x i = ⊎_elim
      (λ (z : x ≡ lead cls s). let t = lead_low s h in omega arith)
      (λ (w : In x (map (mark 6) (bytes s) ++ codes_of cls l)).
      ⊎_elim (λ v. byte_low (bytes s) (bytes_of s h) x v) (λ v. codes_low l hs x v) (in_either (map (mark 6) (bytes s)) (codes_of cls l) w))
      (in_cons (rw (codes_cons cls s l) at i))

  -- the same, by places; past the end a place reads 0
  pub codes_low_at : (l : List Symbol) → Every (Coded Known) l → (k : ℕ) → get_or (codes_of cls l) k 0 < 65536 + 8 * 1050625
  codes_low_at l h k = each_at (65536 + 8 * 1050625) (omega arith) (codes_of cls l) (codes_low l h) k

-- ---- counts

code_size : (cls : List ℕ → ℕ) (x : Symbol) → length (code_of cls x) ≡ symbol_size x
code_size cls (unit u) = refl
code_size cls (opening uri local) = refl
code_size cls (attribute uri local) = refl
code_size cls (qname uri local) = refl
code_size cls ending = refl
code_size cls closing = refl
code_size cls (value token payload) = omega (arith, length-map payload (mark 6))

-- the count of numbers: 1 for each symbol, and the bytes of values without text
pub code_length : (cls : List ℕ → ℕ) (l : List Symbol) → length (codes_of cls l) ≡ symbol_sizes l
unfolding codes_of symbol_sizes
code_length cls [] = refl
code_length cls (x ∷ l) = let i = code_length cls l in let s = code_size cls x in omega (arith, length-append (code_of cls x) (codes_of cls l))

-- ---- parts of a meaning

pub codes_append : (cls : List ℕ → ℕ) (a b : List Symbol) → codes_of cls (a ++ b) ≡ codes_of cls a ++ codes_of cls b
unfolding codes_of
codes_append cls [] b = refl
codes_append cls (x ∷ a) b = ap (λ (r : List ℕ). code_of cls x ++ r) (codes_append cls a b) ∙ sym (append_assoc (code_of cls x) (codes_of cls a) (codes_of cls b))
