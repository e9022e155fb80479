-- Nobody can read other numbers out of the lines than those that were put there. Assumes nothing.
use Prim.Native.Nat.{ℕ, zero, suc, ◌+◌, ◌/◌, ◌%◌, ◌≤◌, ◌<◌}
use mathlib.Core.Path.{◌≡◌, refl, sym, ◌∙◌, ap}
use mathlib.Core.List.{List, [], ◌∷◌, ◌++◌, append_assoc}
use native.Mathlib.Omega.{arith}
use lib.ListN.{get_or, drop}
use borrow.Author.Tests.{ne_eqb}
use Rattle.numeral.specs.Numeral.{unless_zero, digits_in, digits}
use Rattle.numeral.proofs.Facts.{read_from, digits_read_back}
use Rattle.meaning.specs.Meaning.{Pair, pair}
use Rattle.print_lines.specs.Lines.{line, refused_word, at_word}
use Rattle.machine.specs.Machine.{reading, full}
use Rattle.lister_contract.specs.Contract.{list_answer, pairs_in}
use Rattle.print_listing.specs.Printed.{records_word, pairs_word, pair_lines, answer_lines, printed}

-- ---- where a number ends

-- the codes of digits, or others above them
abbrev Codes : List ℕ → Type 0
Codes [] = Unit
Codes (d ∷ l) = (48 ≤ d) × Codes l

codes_append : (l m : List ℕ) → Codes l → Codes m → Codes (l ++ m)
codes_append [] m h k = k
codes_append (d ∷ l) m h k = (h.0, codes_append l m h.1 k)

digits_in_codes : (f n : ℕ) → Codes (digits_in f n)
unfolding digits_in
digits_in_codes zero n = tt
digits_in_codes (suc f) n = codes_append (unless_zero (n / 10) (λ q. digits_in f q)) ((48 + n % 10) ∷ []) (go (n / 10) (λ q. digits_in_codes f q)) (omega arith, tt)
  where
    go : (q : ℕ) → ((q : ℕ) → Codes (digits_in f q)) → Codes (unless_zero q (λ q. digits_in f q))
    go zero i = tt
    go (suc q) i = i (suc q)

digits_codes : (n : ℕ) → Codes (digits n)
unfolding digits
digits_codes n = digits_in_codes (suc n) n

-- digits end where a code below 48 stands
ended : (s : ℕ) → s < 48 → (l m x y : List ℕ) → Codes l → Codes m → l ++ (s ∷ x) ≡ m ++ (s ∷ y) → (l ≡ m) × (x ≡ y)
ended s b [] [] x y h k e = let t : x ≡ y = cc in (refl, t)
ended s b [] (d ∷ m) x y h k e = absurd (let i : s ≡ d = cc in let q : ⊥ = omega (arith, k.0) in q)
ended s b (d ∷ l) [] x y h k e = absurd (let i : d ≡ s = cc in let q : ⊥ = omega (arith, h.0) in q)
ended s b (d ∷ l) (c ∷ m) x y h k e =
    let i : d ≡ c = cc in
    let t : l ++ (s ∷ x) ≡ m ++ (s ∷ y) = cc in
    let r = ended s b l m x y h.1 k.1 t in
    let u : l ≡ m = r.0 in
    let v : ◌≡◌ {A = List ℕ} (d ∷ l) (c ∷ m) = cc in
    (v, r.1)

number_told : (s : ℕ) → s < 48 → (a b : ℕ) (x y : List ℕ) → digits a ++ (s ∷ x) ≡ digits b ++ (s ∷ y) → (a ≡ b) × (x ≡ y)
number_told s l a b x y e =
    let r = ended s l (digits a) (digits b) x y (digits_codes a) (digits_codes b) e in
    (sym (digits_read_back a) ∙ ap (read_from 0) r.0 ∙ digits_read_back b, r.1)

-- ---- lines

-- a line, and what follows it
joined : (first : List ℕ) (a : ℕ) (second : List ℕ) (b : ℕ) (x : List ℕ)
    → line first a second b ++ x ≡ first ++ (digits a ++ (second ++ (digits b ++ (0x0A ∷ x))))
joined first a second b x =
    append_assoc (first ++ digits a) ((second ++ digits b) ++ (0x0A ∷ [])) x
    ∙ append_assoc first (digits a) (((second ++ digits b) ++ (0x0A ∷ [])) ++ x)
    ∙ ap (λ (l : List ℕ). first ++ (digits a ++ l)) (append_assoc (second ++ digits b) (0x0A ∷ []) x ∙ append_assoc second (digits b) (0x0A ∷ x))

cancel : (first l m : List ℕ) → first ++ l ≡ first ++ m → l ≡ m
cancel [] l m e = e
cancel (x ∷ first) l m e = cancel first l m (cc)

-- a line tells its two numbers, and what follows it
line_told : (first rest : List ℕ) (a b c d : ℕ) (x y : List ℕ) → line first a (0x20 ∷ rest) b ++ x ≡ line first c (0x20 ∷ rest) d ++ y → (a ≡ c) × (b ≡ d) × (x ≡ y)
line_told first rest a b c d x y e =
    let f = cancel first _ _ (sym (joined first a (0x20 ∷ rest) b x) ∙ e ∙ joined first c (0x20 ∷ rest) d y) in
    let r = number_told 0x20 (omega arith) a c _ _ f in
    let t = number_told 0x0A (omega arith) b d x y (cancel rest _ _ r.1) in
    (r.0, t.0, t.1)

pair_told : (p q : Pair) (x y : List ℕ) → line [] p.earlier (0x20 ∷ []) p.later ++ x ≡ line [] q.earlier (0x20 ∷ []) q.later ++ y → (p ≡ q) × (x ≡ y)
pair_told p q x y e =
    let r = line_told [] [] p.earlier p.later q.earlier q.later x y e in
    let i : p.earlier ≡ q.earlier = r.0 in
    let j : p.later ≡ q.later = r.1 in
    let k : pair p.earlier p.later ≡ pair q.earlier q.later = cc in
    (k, r.2)

-- a line is not empty
some : (p : Pair) (x : List ℕ) → line [] p.earlier (0x20 ∷ []) p.later ++ x ≡ [] → ⊥
some p x e = go (digits p.earlier) e
  where
    go : (l : List ℕ) → (l ++ ((0x20 ∷ digits p.later) ++ (0x0A ∷ []))) ++ x ≡ [] → ⊥
    go [] e = let z : ◌≡◌ {A = ℕ} 0 1 = cc in omega arith
    go (d ∷ l) e = let z : ◌≡◌ {A = ℕ} 0 1 = cc in omega arith

-- the lines of pairs tell the pairs
pub pairs_told : (ps qs : List Pair) → pair_lines ps ≡ pair_lines qs → ps ≡ qs
unfolding pair_lines
pairs_told [] [] e = refl
pairs_told [] (q ∷ qs) e = absurd (some q (pair_lines qs) (sym e))
pairs_told (p ∷ ps) [] e = absurd (some p (pair_lines ps) e)
pairs_told (p ∷ ps) (q ∷ qs) e =
    let r = pair_told p q (pair_lines ps) (pair_lines qs) e in
    let i : p ≡ q = r.0 in
    let j : ps ≡ qs = pairs_told ps qs r.1 in
    cc

-- demand 3: where neither is refused, two documents for which the same text is printed have as many records and the same pairs
pub printed_tells : (d e : List ℕ) → (list_answer d (reading d full) 8192).number ≡ 0 → (list_answer e (reading e full) 8192).number ≡ 0
    → printed d ≡ printed e
    → ((list_answer d (reading d full) 8192).records ≡ (list_answer e (reading e full) 8192).records) × (pairs_in d (reading d full) ≡ pairs_in e (reading e full))
unfolding printed answer_lines
printed_tells d e h k p =
    let f = rw (h, k) at p in
    let r = line_told records_word (drop 1 pairs_word) _ _ _ _ (pair_lines (pairs_in d (reading d full))) (pair_lines (pairs_in e (reading e full))) f in
    (r.0, pairs_told _ _ r.2)

-- demand 3: a refusal is never printed as a list
pub refusal_apart : (d e : List ℕ) → ((list_answer d (reading d full) 8192).number ≡ 0 → ⊥) → (list_answer e (reading e full) 8192).number ≡ 0 → printed d ≡ printed e → ⊥
unfolding printed answer_lines
refusal_apart d e n k p =
    let m = ne_eqb _ 0 n in
    let f = rw (m, k) at p in
    let i : ◌≡◌ {A = ℕ} 0x66 0x63 = ap (λ (l : List ℕ). get_or l 2 0) f in
    omega arith

-- demand 3: the same refusal printed is the same number and place
pub refusal_tells : (d e : List ℕ) → ((list_answer d (reading d full) 8192).number ≡ 0 → ⊥) → ((list_answer e (reading e full) 8192).number ≡ 0 → ⊥) → printed d ≡ printed e
    → ((list_answer d (reading d full) 8192).number ≡ (list_answer e (reading e full) 8192).number)
    × ((list_answer d (reading d full) 8192).place ≡ (list_answer e (reading e full) 8192).place)
unfolding printed answer_lines
refusal_tells d e n k p =
    let m = ne_eqb _ 0 n in
    let o = ne_eqb _ 0 k in
    let f = rw (m, o) at p in
    let r = line_told refused_word (drop 1 at_word) _ _ _ _ [] [] (ap (λ (l : List ℕ). l ++ []) f) in
    (r.0, r.1)
