use Rattle.std.proofs.Common.{List, ℕ, ◌+◌, ◌-◌, ◌≤◌, arith, rules, length}
use Rattle.sequences.specs.Lists.{part}
use Rattle.chunks.proofs.Little.{part_slice, part_long, part_bytes, summed_start, summed_mul, summed_add, summed_next, summed_end}
use Rattle.chunks.proofs.little_at.Goals as goal

-- at most eight bytes are read
few : (p : List ℕ) (from to : ℕ) → (from ≤ to) × (to ≤ length p) × (to ≤ from + 8) → length (part p from (to - from)) ≤ 8
few p from to h = let e = part_long p from to h.0 h.1 in omega (arith, h.2)

pub loop-b-init : goal.loop-b-init
loop-b-init c = summed_start (search rules)

pub overflow_mul-v : goal.overflow_mul-v
overflow_mul-v c =
    let each = part_bytes c.args.from c.args.to (record { each = λ k. (c.type_inv.p k).fits }) in
    record { fits = summed_mul c.loop-b.invariant (few _ _ _ c.requires) each _ _ c.in-Some.ensures.steps }

pub overflow_add-v : goal.overflow_add-v
overflow_add-v c =
    let each = part_bytes c.args.from c.args.to (record { each = λ k. (c.type_inv.p k).fits }) in
    record { fits = rw c.from.ensures (summed_add c.loop-b.invariant (few _ _ _ c.requires) each _ _ c.in-Some.ensures.steps) }

pub loop-b-preserved : goal.loop-b-preserved
loop-b-preserved c =
    let each = part_bytes c.args.from c.args.to (record { each = λ k. (c.type_inv.p k).fits }) in
    rw c.from.ensures (summed_next c.loop-b.invariant (few _ _ _ c.requires) each _ _ c.in-Some.ensures.steps)

pub returns : goal.returns
returns c =
    let r = c.requires in
    let e = summed_end c.loop-b.invariant c.in-None.ensures.steps.0 in
    (rw (← part_slice c.args.p.now c.args.from c.args.to r.0 r.1) e.0, rw (part_long c.args.p.now c.args.from c.args.to r.0 r.1) at e.1)
