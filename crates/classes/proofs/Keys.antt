-- The key of a row of qnames, and that it tells its three classes. Assumes nothing.
use Prim.Native.Nat.{ℕ, zero, suc, ◌+◌, ◌-◌, ◌*◌, ◌≤◌}
use mathlib.Core.Path.{◌≡◌, refl, ap, ◌∙◌}
use mathlib.Core.List.{List}
use native.Mathlib.Omega.{arith}
use lib.ListN.{get_or}
use Rattle.classes.specs.Search.{class_at, key_of, Keyable, key_at}
use Rattle.token.specs.Tokens.{qname_width}

-- a key tells its three classes
pub key_apart : (a b c a' b' c' : ℕ) → a ≤ 1024 → b ≤ 1024 → c ≤ 1024 → a' ≤ 1024 → b' ≤ 1024 → c' ≤ 1024
    → key_of a b c ≡ key_of a' b' c' → (a ≡ a') × (b ≡ b') × (c ≡ c')
key_apart a b c a' b' c' ha hb hc ha' hb' hc' e = (omega arith, omega arith, omega arith)

-- the class of a row that is not the empty name
pub row_class : (classes : List ℕ) (row : ℕ) → (row ≡ 0 → ⊥) → get_or classes (row - 1) 0 ≡ class_at classes row
row_class classes zero n = absurd (n refl)
row_class classes (suc k) n = let i : suc k - 1 ≡ k = omega arith in ap (λ (j : ℕ). get_or classes j 0) i

-- the class of the row that a number refers to
pub class_found : (classes : List ℕ) (row x r : ℕ) → row ≡ x → Keyable classes x → r ≡ class_at classes row → (r ≡ class_at classes x) × (r ≤ 1024)
class_found classes row x r e k c =
    let i : r ≡ class_at classes x = c ∙ ap (class_at classes) e in
    let l = k.class_in_fact in
    (i, omega arith)

pub key_is : (qnames classes : List ℕ) (r a b c : ℕ) → a ≡ class_at classes (get_or qnames (qname_width * r) 0) → b ≡ class_at classes (get_or qnames (qname_width * r + 1) 0)
    → c ≡ class_at classes (get_or qnames (qname_width * r + 2) 0) → key_of a b c ≡ key_at qnames classes r
unfolding key_at
key_is qnames classes r a b c i j k = rw (i, j, k)
