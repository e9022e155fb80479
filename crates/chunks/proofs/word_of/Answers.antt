-- `chunks::word_of` meets its contract: the sizes that there are, and no other. Assumes nothing.
use Rattle.std.proofs.Common.{ℕ, ◌≡◌, ◌≤◌, ◌<◌, arith}
use Rattle.chunks.proofs.Words.{no_size, eight_bytes}
use Rattle.chunks.proofs.word_of.Goals as goal

eight : (n : ℕ) → 8 ≤ n → n < 9 → n ≡ 8
eight n h k = omega arith

pub returns-in-len8 : goal.returns-in-len8
returns-in-len8 c =
    let l = c.in-len8 in
    let n = eight _ l.len_at_least l.len_below in
    let e = eight_bytes c.args.p.now n in
    let h = c.from_le_bytes-in-len8.ensures in
    (omega (arith, e, h), rw n c.from_le_bytes-in-len8.type_inv)

pub returns-in_default-2 : goal.returns-in_default-2
returns-in_default-2 c =
    let l = c.in_default in
    absurd (no_size _ c.requires (λ e. omega (arith, l.len_at_least)) (λ e. omega (arith, l.len_at_least))
    (λ e. omega (arith, l.len_below)) (λ e. omega (arith, l.len_below)))

pub returns-in_default-3 : goal.returns-in_default-3
returns-in_default-3 c =
    let l = c.in_default in
    absurd (no_size _ c.requires (λ e. omega (arith, l.len_at_least)) (λ e. omega (arith, l.len_at_least))
    (λ e. omega (arith, l.len_at_least)) (λ e. omega (arith, l.len_below)))

pub returns-in_default-4 : goal.returns-in_default-4
returns-in_default-4 c =
    let l = c.in_default in
    absurd (no_size _ c.requires (λ e. omega (arith, l.len_at_least)) (λ e. omega (arith, l.len_at_least))
    (λ e. omega (arith, l.len_at_least)) (λ e. omega (arith, l.len_at_least)))
