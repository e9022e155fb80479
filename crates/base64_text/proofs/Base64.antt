-- Laws of Base64 text. Assumes nothing.
use Prim.Native.Nat.{ℕ, zero, suc, ◌+◌, ◌-◌, ◌*◌, ◌/◌, ◌%◌, ◌≤◌, ◌<◌}
use mathlib.Core.Path.{◌≡◌, refl, sym, ◌∙◌, ap}
use mathlib.Core.Bool.{cond}
use mathlib.Core.List.{List, [], ◌∷◌, ◌++◌, map}
use native.Mathlib.Numerals.{add-one}
use native.Mathlib.Omega.{arith}
use lib.ListN.{length, get_or, take, drop, take-append-drop, length-drop, drop_of_length-le}
use lib.Seq.{sets, drop-cons, get_or-drop, take-add, length-take-le}
use lib.Dec.{ltb}
use Rattle.sequences.specs.Lists.{overlay, bytes_of}
use Rattle.sequences.proofs.Table.{counted, at_each}
use Rattle.sequences.proofs.Tests.{tests}
use Rattle.base64_text.specs.Base64.{letter, base64}
use Rattle.base64_text.specs.Letters.{Alphabet}
use Rattle.sequences.proofs.Store.{text_next, text_front}

pub length_base64 : (p : List ℕ) → length (base64 p) ≡ (length p + 2) / 3 * 4
unfolding base64
length_base64 [] = refl
length_base64 (a ∷ []) = refl
length_base64 (a ∷ b ∷ []) = refl
length_base64 (a ∷ b ∷ c ∷ l) = let i = length_base64 l in omega arith

-- a list that reads as the alphabet, checked entry by entry, is a table of it
pub alphabet_is : (t : List ℕ) → map (λ (x : ℕ). x) t ≡ map (λ (v : ℕ). cond (ltb v 64) (letter v) 0) (counted 64 0) → Alphabet t
unfolding Alphabet
alphabet_is t e = λ k h. at_each (λ (x : ℕ). x) (λ (v : ℕ). cond (ltb v 64) (letter v) 0) t 64 e k h refl ∙ simp (tests, h)

-- the text of whole groups of three bytes, then the text of what follows
pub base64_append : (p q : List ℕ) → length p % 3 ≡ 0 → base64 (p ++ q) ≡ base64 p ++ base64 q
unfolding base64
base64_append [] q h = refl
base64_append (a ∷ []) q h = absurd (let z : ⊥ = omega arith in z)
base64_append (a ∷ b ∷ []) q h = absurd (let z : ⊥ = omega arith in z)
base64_append (a ∷ b ∷ c ∷ p) q h =
    ap (λ (l : List ℕ). letter (a / 4) ∷ letter (a % 4 * 16 + b / 16) ∷ letter (b % 16 * 4 + c / 64) ∷ letter (c % 64) ∷ l)
    (base64_append p q (let z : length p % 3 ≡ 0 = omega arith in z))

-- four units further on, the group begins three bytes further on
next_group : (k : ℕ) → suc (suc (suc (suc k))) / 4 * 3 ≡ suc (suc (suc (k / 4 * 3)))
next_group k = omega arith

-- unit k is unit k % 4 of the text that begins with the group of k
pub base64_at : (p : List ℕ) (k : ℕ) → get_or (base64 p) k 0 ≡ get_or (base64 (drop (k / 4 * 3) p)) (k % 4) 0
unfolding base64
base64_at p zero = refl
base64_at p (suc zero) = refl
base64_at p (suc (suc zero)) = refl
base64_at p (suc (suc (suc zero))) = refl
base64_at [] (suc (suc (suc (suc k)))) = rw (next_group k)
base64_at (a ∷ []) (suc (suc (suc (suc k)))) = rw (next_group k)
base64_at (a ∷ b ∷ []) (suc (suc (suc (suc k)))) = rw (next_group k)
base64_at (a ∷ b ∷ c ∷ l) (suc (suc (suc (suc k)))) =
    let e : suc (suc (suc (suc k))) % 4 ≡ k % 4 = omega arith in
    rw (next_group k, e) (base64_at l k)

-- ---- the texts of three, two and one bytes, and of none

pub text_three : (a b c : ℕ) {w x y z : ℕ} → w ≡ letter (a / 4) → x ≡ letter (a % 4 * 16 + b / 16) → y ≡ letter (b % 16 * 4 + c / 64)
    → z ≡ letter (c % 64) → w ∷ x ∷ y ∷ z ∷ [] ≡ base64 (a ∷ b ∷ c ∷ [])
unfolding base64
text_three a b c e f g h = cc

pub text_two : (a b : ℕ) {w x y : ℕ} → w ≡ letter (a / 4) → x ≡ letter (a % 4 * 16 + b / 16) → y ≡ letter (b % 16 * 4)
    → w ∷ x ∷ y ∷ 61 ∷ [] ≡ base64 (a ∷ b ∷ [])
unfolding base64
text_two a b e f g = cc

pub text_one : (a : ℕ) {w x : ℕ} → w ≡ letter (a / 4) → x ≡ letter (a % 4 * 16) → w ∷ x ∷ 61 ∷ 61 ∷ [] ≡ base64 (a ∷ [])
unfolding base64
text_one a e f = cc

pub text_none : base64 [] ≡ []
unfolding base64
text_none = refl

-- ---- writing: the groups of three bytes, then what is left

three_more : (p : List ℕ) (i : ℕ) → i + 3 ≤ length p
    → take (i + 3) p ≡ take i p ++ (get_or p i 0 ∷ get_or p (i + 1) 0 ∷ get_or p (i + 2) 0 ∷ [])
three_more p i h =
    let e1 : i + 1 ≡ suc i = omega arith in
    let e2 : i + 2 ≡ suc (suc i) = omega arith in
    let a : i < length p = omega arith in
    let b : suc i < length p = omega arith in
    let c : suc (suc i) < length p = omega arith in
    take-add i 3 p ∙ rw (e1, e2, drop-cons p i 0 a, drop-cons p (suc i) 0 b, drop-cons p (suc (suc i)) 0 c)

-- the text of n groups of three bytes has 4 * n units, in 8 * n bytes
groups_size : (p : List ℕ) (n : ℕ) → 3 * n ≤ length p → (length (take (3 * n) p) % 3 ≡ 0) × (8 * n ≡ 2 * length (base64 (take (3 * n) p)))
groups_size p n h =
    let e : length (take (3 * n) p) ≡ 3 * n = length-take-le (3 * n) p h in
    let f = length_base64 (take (3 * n) p) in
    (omega arith, omega arith)

-- the text of no group, stored at the front
pub groups_none : (l : List ℕ) → l ≡ sets l 0 (bytes_of (base64 []))
unfolding base64
groups_none l = refl

-- the text of a further group, stored behind that of the groups before it
pub groups_next : (p l : List ℕ) (k : ℕ) {mid after : List ℕ} → 3 * k + 3 ≤ length p → mid ≡ sets l 0 (bytes_of (base64 (take (3 * k) p)))
    → after ≡ sets mid (8 * k) (bytes_of (base64 (get_or p (3 * k) 0 ∷ get_or p (3 * k + 1) 0 ∷ get_or p (3 * k + 2) 0 ∷ [])))
    → after ≡ sets l 0 (bytes_of (base64 (take (3 * (k + 1)) p)))
groups_next p l k h e f =
    let s = groups_size p k (omega arith) in
    let g : List ℕ = get_or p (3 * k) 0 ∷ get_or p (3 * k + 1) 0 ∷ get_or p (3 * k + 2) 0 ∷ [] in
    let z : 3 * (k + 1) ≡ 3 * k + 3 = omega arith in
    f ∙ ap (λ (x : List ℕ). sets x (8 * k) (bytes_of (base64 g))) e
    ∙ text_next (base64 (take (3 * k) p)) (base64 g) l (8 * k) s.1
    ∙ ap (λ (x : List ℕ). sets l 0 (bytes_of x)) (sym (base64_append (take (3 * k) p) g s.0))
    ∙ ap (λ (x : List ℕ). sets l 0 (bytes_of (base64 x))) (sym (three_more p (3 * k) h))
    ∙ ap (λ (x : ℕ). sets l 0 (bytes_of (base64 (take x p)))) (sym z)

-- the text of the rest, stored behind that of the groups: the whole text
pub groups_last : (p l : List ℕ) (n : ℕ) {mid after : List ℕ} → 3 * n ≤ length p → (length p + 2) / 3 * 8 ≤ length l
    → mid ≡ sets l 0 (bytes_of (base64 (take (3 * n) p))) → after ≡ sets mid (8 * n) (bytes_of (base64 (drop (3 * n) p)))
    → after ≡ overlay (bytes_of (base64 p)) l
groups_last p l n h r e f =
    let s = groups_size p n h in
    f ∙ ap (λ (x : List ℕ). sets x (8 * n) (bytes_of (base64 (drop (3 * n) p)))) e
    ∙ text_next (base64 (take (3 * n) p)) (base64 (drop (3 * n) p)) l (8 * n) s.1
    ∙ ap (λ (x : List ℕ). sets l 0 (bytes_of x)) (sym (base64_append (take (3 * n) p) (drop (3 * n) p) s.0))
    ∙ ap (λ (x : List ℕ). sets l 0 (bytes_of (base64 x))) (take-append-drop (3 * n) p)
    ∙ text_front (base64 p) l (let q = length_base64 p in omega arith)

-- ---- what is left of one or two bytes

pub none_left : (p : List ℕ) (i : ℕ) → i ≡ length p → drop i p ≡ []
none_left p i e = let h : length p ≤ i = omega arith in drop_of_length-le p h

pub one_left : (p : List ℕ) (i : ℕ) → i + 1 ≡ length p → get_or p i 0 ∷ [] ≡ drop i p
one_left p i e =
    let a : i < length p = omega arith in
    let b : length p ≤ suc i = omega arith in
    sym (drop-cons p i 0 a ∙ ap (λ (l : List ℕ). get_or p i 0 ∷ l) (drop_of_length-le p b))

pub two_left : (p : List ℕ) (i : ℕ) → i + 2 ≡ length p → get_or p i 0 ∷ get_or p (i + 1) 0 ∷ [] ≡ drop i p
two_left p i e =
    let a : i < length p = omega arith in
    let z : i + 1 + 1 ≡ length p = omega arith in
    sym (drop-cons p i 0 a ∙ ap (λ (l : List ℕ). get_or p i 0 ∷ l) (rw (← add-one i) (sym (one_left p (i + 1) z))))

-- ---- the units of the first group of a text

no_low_16 : (x : ℕ) → x + 0 / 16 ≡ x
no_low_16 x = omega arith

no_low_64 : (x : ℕ) → x + 0 / 64 ≡ x
no_low_64 x = omega arith

first : (l : List ℕ) → 0 < length l → letter (get_or l 0 0 / 4) ≡ get_or (base64 l) 0 0
unfolding base64
first [] h = absurd (let q : ⊥ = omega arith in q)
first (a ∷ []) h = refl
first (a ∷ b ∷ []) h = refl
first (a ∷ b ∷ c ∷ l) h = refl

second : (l : List ℕ) → 0 < length l → letter (get_or l 0 0 % 4 * 16 + get_or l 1 0 / 16) ≡ get_or (base64 l) 1 0
unfolding base64
second [] h = absurd (let q : ⊥ = omega arith in q)
second (a ∷ []) h = ap letter (no_low_16 (a % 4 * 16))
second (a ∷ b ∷ []) h = refl
second (a ∷ b ∷ c ∷ l) h = refl

third : (l : List ℕ) → 1 < length l → letter (get_or l 1 0 % 16 * 4 + get_or l 2 0 / 64) ≡ get_or (base64 l) 2 0
unfolding base64
third [] h = absurd (let q : ⊥ = omega arith in q)
third (a ∷ []) h = absurd (let q : ⊥ = omega arith in q)
third (a ∷ b ∷ []) h = ap letter (no_low_64 (b % 16 * 4))
third (a ∷ b ∷ c ∷ l) h = refl

third_none : (l : List ℕ) → 0 < length l → length l ≤ 1 → 61 ≡ get_or (base64 l) 2 0
unfolding base64
third_none [] h k = absurd (let q : ⊥ = omega arith in q)
third_none (a ∷ []) h k = refl
third_none (a ∷ b ∷ l) h k = absurd (let q : ⊥ = omega arith in q)

fourth : (l : List ℕ) → 2 < length l → letter (get_or l 2 0 % 64) ≡ get_or (base64 l) 3 0
unfolding base64
fourth [] h = absurd (let q : ⊥ = omega arith in q)
fourth (a ∷ []) h = absurd (let q : ⊥ = omega arith in q)
fourth (a ∷ b ∷ []) h = absurd (let q : ⊥ = omega arith in q)
fourth (a ∷ b ∷ c ∷ l) h = refl

fourth_none : (l : List ℕ) → 0 < length l → length l ≤ 2 → 61 ≡ get_or (base64 l) 3 0
unfolding base64
fourth_none [] h k = absurd (let q : ⊥ = omega arith in q)
fourth_none (a ∷ []) h k = refl
fourth_none (a ∷ b ∷ []) h k = refl
fourth_none (a ∷ b ∷ c ∷ l) h k = absurd (let q : ⊥ = omega arith in q)

-- ---- unit k, from the three bytes of its group

-- the group of a unit of the text begins inside the bytes
pub group_inside : (n k : ℕ) → k < (n + 2) / 3 * 4 → k / 4 * 3 < n
group_inside n k h = omega arith

-- the last unit of a group is the one that is none of the first three
pub last_of_four : (k : ℕ) → (k % 4 ≡ 0 → ⊥) → (k % 4 ≡ 1 → ⊥) → (k % 4 ≡ 2 → ⊥) → k % 4 ≡ 3
last_of_four k a b c = omega arith

module _ (p : List ℕ) (k : ℕ) (h : k < (length p + 2) / 3 * 4) where
  left : length (drop (k / 4 * 3) p) ≡ length p - k / 4 * 3
  left = length-drop (k / 4 * 3) p

  some_left : 0 < length (drop (k / 4 * 3) p)
  some_left = let e = left in let i = group_inside (length p) k h in omega arith

  module _ {a b c : ℕ} (ea : a ≡ get_or p (k / 4 * 3) 0) (eb : b ≡ get_or p (k / 4 * 3 + 1) 0) (ec : c ≡ get_or p (k / 4 * 3 + 2) 0) where
    fa : get_or (drop (k / 4 * 3) p) 0 0 ≡ a
    fa = get_or-drop (k / 4 * 3) p 0 0 ∙ ap (λ (x : ℕ). get_or p x 0) (let z : k / 4 * 3 + 0 ≡ k / 4 * 3 = omega arith in z) ∙ sym ea

    fb : get_or (drop (k / 4 * 3) p) 1 0 ≡ b
    fb = get_or-drop (k / 4 * 3) p 1 0 ∙ sym eb

    fc : get_or (drop (k / 4 * 3) p) 2 0 ≡ c
    fc = get_or-drop (k / 4 * 3) p 2 0 ∙ sym ec

    pub unit_first : k % 4 ≡ 0 → {r : ℕ} → r ≡ letter (a / 4) → r ≡ get_or (base64 p) k 0
    unit_first m e = e ∙ rw (base64_at p k, m) (rw fa at (first (drop (k / 4 * 3) p) some_left))

    pub unit_second : k % 4 ≡ 1 → {r : ℕ} → r ≡ letter (a % 4 * 16 + b / 16) → r ≡ get_or (base64 p) k 0
    unit_second m e = e ∙ rw (base64_at p k, m) (rw (fa, fb) at (second (drop (k / 4 * 3) p) some_left))

    pub unit_third : k % 4 ≡ 2 → k / 4 * 3 + 1 < length p → {r : ℕ} → r ≡ letter (b % 16 * 4 + c / 64) → r ≡ get_or (base64 p) k 0
    unit_third m l e =
        let z = left in
        e ∙ rw (base64_at p k, m) (rw (fb, fc) at (third (drop (k / 4 * 3) p) (let q : 1 < length (drop (k / 4 * 3) p) = omega arith in q)))

    pub unit_third_none : k % 4 ≡ 2 → length p ≤ k / 4 * 3 + 1 → 61 ≡ get_or (base64 p) k 0
    unit_third_none m l =
        let z = left in
        rw (base64_at p k, m) (third_none (drop (k / 4 * 3) p) some_left (let q : length (drop (k / 4 * 3) p) ≤ 1 = omega arith in q))

    pub unit_fourth : k % 4 ≡ 3 → k / 4 * 3 + 2 < length p → {r : ℕ} → r ≡ letter (c % 64) → r ≡ get_or (base64 p) k 0
    unit_fourth m l e =
        let z = left in
        e ∙ rw (base64_at p k, m) (rw fc at (fourth (drop (k / 4 * 3) p) (let q : 2 < length (drop (k / 4 * 3) p) = omega arith in q)))

    pub unit_fourth_none : k % 4 ≡ 3 → length p ≤ k / 4 * 3 + 2 → 61 ≡ get_or (base64 p) k 0
    unit_fourth_none m l =
        let z = left in
        rw (base64_at p k, m) (fourth_none (drop (k / 4 * 3) p) some_left (let q : length (drop (k / 4 * 3) p) ≤ 2 = omega arith in q))
