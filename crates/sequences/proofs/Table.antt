-- A rule of a table, at each of its entries, from one equation of lists that is checked by computing. Assumes nothing.
use Prim.Native.Nat.{ℕ, zero, suc, ◌+◌, ◌<◌}
use mathlib.Core.Path.{◌≡◌, sym, ◌∙◌, ap}
use mathlib.Core.List.{List, [], ◌∷◌, map}
use native.Mathlib.Omega.{arith}
use native.Mathlib.Nat.{add-zero, zero-add}
use lib.ListN.{get_or, get_or-map}

-- n, n + 1, .. : so many numbers
abbrev pub counted : ℕ → ℕ → List ℕ
counted zero n = []
counted (suc k) n = n ∷ counted k (suc n)

counted_at : (size n k d : ℕ) → k < size → get_or (counted size n) k d ≡ n + k
counted_at zero n k d h = absurd (let q : ⊥ = omega arith in q)
counted_at (suc size) n zero d h = sym (add-zero n)
counted_at (suc size) n (suc k) d h =
    let l : k < size = omega arith in
    counted_at size (suc n) k d l ∙ (let e : suc n + k ≡ n + suc k = omega arith in e)

-- what the entries stand for, read by `decode`, is the rule's list: then it is so at each entry
pub at_each : {A : Type 0} (decode rule : ℕ → A) (table : List ℕ) (size : ℕ)
    → map decode table ≡ map rule (counted size 0) → (k : ℕ) → k < size → decode 0 ≡ rule size → decode (get_or table k 0) ≡ rule k
at_each decode rule table size e k h z =
    sym (get_or-map decode table k 0)
    ∙ ap (λ l. get_or l k (decode 0)) e
    ∙ ap (get_or (map rule (counted size 0)) k) z
    ∙ get_or-map rule (counted size 0) k size
    ∙ ap rule (counted_at size 0 k size h ∙ zero-add k)
