-- The tests of specs/Meaning.antt decide equality of symbols and of meanings. Assumes nothing.
use Prim.Native.Nat.{ℕ}
use mathlib.Core.Path.{◌≡◌, refl, sym, ◌∙◌}
use mathlib.Core.Logic.{◌↔◌}
use mathlib.Core.List.{List, [], ◌∷◌}
use mathlib.Core.Bool.{true, cond}
use lib.Dec.{eqb}
use lib.ListN.{get_or}
use borrow.Author.Tests.{eq-eqb, eqb-true}
use Rattle.sequences.specs.Lists.{same}
use Rattle.sequences.proofs.Tests.{and_left, and_right}
use Rattle.sequences.proofs.Same.{never, same_itself, same_true}
use Rattle.meaning.specs.Meaning.{Symbol, unit, opening, ending, attribute, closing, value, qname, symbol_kind, first_of, second_of, same_symbol, same_meaning}

-- the symbol of a kind and two lists
abbrev symbol_by : ℕ → List ℕ → List ℕ → Symbol
symbol_by kind a b =
    cond (eqb kind 0) (unit (get_or a 0 0))
    (cond (eqb kind 1) (opening a b)
    (cond (eqb kind 2) ending
    (cond (eqb kind 3) (attribute a b) (cond (eqb kind 4) closing (cond (eqb kind 5) (value (get_or a 0 0) b) (qname a b))))))

symbol_by_lem : (x : Symbol) → symbol_by (symbol_kind x) (first_of x) (second_of x) ≡ x
symbol_by_lem (unit u) = refl
symbol_by_lem (opening uri local) = refl
symbol_by_lem ending = refl
symbol_by_lem (attribute uri local) = refl
symbol_by_lem closing = refl
symbol_by_lem (value token payload) = refl
symbol_by_lem (qname uri local) = refl

symbol_true : (x y : Symbol) → same_symbol x y ≡ true → x ≡ y
unfolding same_symbol
symbol_true x y e =
    let k : symbol_kind x ≡ symbol_kind y = eqb-true _ _ (and_left (eqb (symbol_kind x) (symbol_kind y)) _ e) in
    let h = and_right (eqb (symbol_kind x) (symbol_kind y)) _ e in
    let a : first_of x ≡ first_of y = same_true _ _ (and_left (same (first_of x) (first_of y)) _ h) in
    let b : second_of x ≡ second_of y = same_true _ _ (and_right (same (first_of x) (first_of y)) _ h) in
    sym (symbol_by_lem x) ∙ rw (k, a, b) (symbol_by_lem y)

symbol_refl : (x : Symbol) → same_symbol x x ≡ true
unfolding same_symbol
symbol_refl x = rw (eq-eqb (symbol_kind x) (symbol_kind x) refl, same_itself (first_of x)) (same_itself (second_of x))

-- the test of two symbols decides their equality
pub same_symbol_lem : (x y : Symbol) → (same_symbol x y ≡ true) ↔ (x ≡ y)
same_symbol_lem x y = (symbol_true x y, λ e. rw e (symbol_refl y))

meaning_refl : (a : List Symbol) → same_meaning a a ≡ true
meaning_refl [] = refl
meaning_refl (x ∷ a) = rw (symbol_refl x) (meaning_refl a)

meaning_true : (a b : List Symbol) → same_meaning a b ≡ true → a ≡ b
meaning_true [] [] e = refl
meaning_true [] (y ∷ b) e = never e
meaning_true (x ∷ a) [] e = never e
meaning_true (x ∷ a) (y ∷ b) e =
    let h : x ≡ y = symbol_true x y (and_left (same_symbol x y) (same_meaning a b) e) in
    let t : a ≡ b = meaning_true a b (and_right (same_symbol x y) (same_meaning a b) e) in
    cc

-- the test of two meanings decides their equality
pub same_meaning_lem : (a b : List Symbol) → (same_meaning a b ≡ true) ↔ (a ≡ b)
same_meaning_lem a b = (meaning_true a b, λ e. rw e (meaning_refl b))
