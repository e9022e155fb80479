-- The last digit of a number in chunks, the number without it, and the test for zero. Assumes nothing.
use Prim.Native.Nat.{ℕ, zero, suc, ◌+◌, ◌-◌, ◌*◌, ◌/◌, ◌%◌, ◌^◌, ◌≤◌, ◌<◌}
use mathlib.Core.Path.{◌≡◌, refl, sym, ◌∙◌}
use mathlib.Core.Bool.{false}
use native.Mathlib.Nat.{pow-succ', mul_assoc, mul-zero, one-le-pow}
use native.Mathlib.Omega.{arith}
use lib.Dec.{eqb, eqb-suc-zero, lit<, lit≤}
use borrow.Author.Tests.{eq-eqb, ne_eqb}
use Rattle.chunks.specs.declared.Chunks.{Chunks}
use Rattle.chunks.specs.Chunks.{chunks_value, Chunked}

pub pow_out : (k : ℕ) → 0 < k → 10 ^ k ≡ 10 * 10 ^ (k - 1)
pow_out zero h = elim h [ ]
pow_out (suc k) h = let e : suc k - 1 ≡ k = omega arith in rw e (pow-succ' 10 k)

pub ten_pos : (k : ℕ) → 0 < 10 ^ k
ten_pos k = one-le-pow k 10 (omega arith)

-- the chunks above the lowest
abbrev upper : Chunks → ℕ
upper n = n.mid + 1000000000000000000 * n.high

-- a ten taken out of the lowest chunk's power
by_ten : (n : Chunks) → 0 < n.left → chunks_value n ≡ n.low + 10 * (10 ^ (n.left - 1) * upper n)
by_ten n h = rw (pow_out n.left h, mul_assoc)

pub last_digit : (n : Chunks) → Chunked n → n.low % 10 ≡ chunks_value n % 10
last_digit n g = rw (by_ten n g.some_left) (omega arith)

-- ---- the number without its last digit: from the lowest chunk

low_tenth : {x p q : ℕ} → x < q → q ≡ 10 * p → x / 10 < p
low_tenth h e = omega arith

one_less : {k : ℕ} → (k ≡ 1 → ⊥) → 0 < k → k ≤ 18 → (0 < k - 1) × (k - 1 ≤ 18)
one_less h a b = (omega arith, omega arith)

abbrev shortened : Chunks → Chunks
shortened n = record { low = n.low / 10; mid = n.mid; high = n.high; left = n.left - 1 }

pub shorten : (n : Chunks) → Chunked n → (n.left ≡ 1 → ⊥) → (chunks_value (shortened n) ≡ chunks_value n / 10) × Chunked (shortened n)
shorten n g h =
    let l = one_less h g.some_left g.few_left in (
      rw (by_ten n g.some_left) (omega arith),
      record {
        low_fits = low_tenth g.low_fits (pow_out n.left g.some_left);
        mid_fits = g.mid_fits;
        high_fits = g.high_fits;
        some_left = l.0;
        few_left = l.1;
      },
    )

-- ---- and where that was the lowest chunk's only digit

abbrev moved : Chunks → Chunks
moved n = record { low = n.mid; mid = n.high; high = 0; left = 18 }

pub move : (n : Chunks) → Chunked n → n.left ≡ 1 → (chunks_value (moved n) ≡ chunks_value n / 10) × Chunked (moved n)
move n g e =
    let h : n.low < 10 ^ 1 = rw e at g.low_fits in (
      rw e (omega arith),
      record {
        low_fits = g.mid_fits;
        mid_fits = g.high_fits;
        high_fits = lit< tt;
        some_left = lit< tt;
        few_left = lit≤ tt;
      },
    )

-- ---- nothing above the lowest chunk

pub low_alone : (n : Chunks) → n.mid ≡ 0 → n.high ≡ 0 → chunks_value n ≡ n.low
low_alone n a b = rw (a, b, mul-zero) (omega arith)

-- ---- zero

both_positive : (a b : ℕ) → 0 < a → 0 < b → 0 < a * b
both_positive zero b h k = elim h [ ]
both_positive (suc a) zero h k = elim k [ ]
both_positive (suc a) (suc b) h k = omega arith

not_upper : (n : Chunks) → 0 < upper n → chunks_value n ≡ 0 → ⊥
not_upper n h e = no n.low _ (both_positive (10 ^ n.left) (upper n) (ten_pos n.left) h) e
  where
    no : (a b : ℕ) → 0 < b → a + b ≡ 0 → ⊥
    no a b h e = omega arith

pub zero_high : (n : Chunks) → n.low ≡ 0 → n.mid ≡ 0 → eqb n.high 0 ≡ eqb (chunks_value n) 0
zero_high n a b = go n.high refl
  where
    some : (m h : ℕ) → 0 < m + 1000000000000000000 * suc h
    some m h = omega arith

    go : (h : ℕ) → n.high ≡ h → eqb h 0 ≡ eqb (chunks_value n) 0
    go zero e = sym (eq-eqb (chunks_value n) 0 (rw (a, b, e, mul-zero)))
    go (suc h) e = eqb-suc-zero h ∙ sym (ne_eqb (chunks_value n) 0 (not_upper n (rw e (some n.mid h))))

pub some_mid : (n : Chunks) → (n.mid ≡ 0 → ⊥) → false ≡ eqb (chunks_value n) 0
some_mid n h = sym (ne_eqb _ _ (not_upper n (some n.mid _ h)))
  where
    some : (a b : ℕ) → (a ≡ 0 → ⊥) → 0 < a + b
    some a b h = omega arith

pub some_low : (n : Chunks) → (n.low ≡ 0 → ⊥) → false ≡ eqb (chunks_value n) 0
some_low n h = sym (ne_eqb (chunks_value n) 0 (λ e. h (first n.low (10 ^ n.left * upper n) e)))
  where
    first : (a b : ℕ) → a + b ≡ 0 → a ≡ 0
    first a b e = omega arith
