-- An array of 1,024 numbers whose first n are those of a function. Assumes nothing.
use Prim.Native.Nat.{ℕ, ◌+◌, ◌≤◌, ◌<◌}
use mathlib.Core.Path.{◌≡◌, ◌∙◌}
use mathlib.Core.List.{List}
use native.Mathlib.Omega.{arith}
use lib.ListN.{length, get_or, set, take, length-set}
use lib.Seq.{get_or-set_same, get_or-set_other, get_or-take, length-take-le, ext_get_or}
use borrow.Author.Count.{below_none, below_more}
use Rattle.sequences.specs.Arrays.{Front}

pub record FirstValues (f : ℕ → ℕ) (n : ℕ) (l : List ℕ) : Type 0 where
  pub long : length l ≡ 1024
  pub are : (k : ℕ) → k < n → get_or l k 0 ≡ f k

pub values_none : {f : ℕ → ℕ} {l : List ℕ} → length l ≡ 1024 → FirstValues f 0 l
values_none h = record { long = h; are = below_none _ }

pub values_next : {f : ℕ → ℕ} {n : ℕ} {l : List ℕ} (v : ℕ) → FirstValues f n l → n < 1024 → v ≡ f n → FirstValues f (n + 1) (set l n v)
values_next {f} {n} {l} v x h e =
    let kept : (k : ℕ) → k < n → get_or (set l n v) k 0 ≡ f k = λ k m. get_or-set_other l n k v 0 (λ i. omega arith) ∙ x.are k m in
    record { long = rw length-set x.long; are = below_more _ n kept (get_or-set_same l n v 0 (omega (arith, x.long)) ∙ e) }

-- an array whose first numbers are a list's has it at its front
pub values_front : (m : List ℕ) {n : ℕ} {l : List ℕ} → FirstValues (λ k. get_or m k 0) n l → length m ≤ n → n ≤ 1024 → Front m l
values_front m {n} {l} x h b =
    let e : length (take (length m) l) ≡ length m = length-take-le (length m) l (omega (arith, x.long)) in
    ext_get_or 0 (take (length m) l) m e (λ k i. get_or-take (length m) l k 0 (omega arith) ∙ x.are k (omega arith))
