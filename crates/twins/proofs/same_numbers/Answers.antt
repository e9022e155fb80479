-- `twins::same_numbers` meets its contract: as many numbers, and each equal to the one at its place. Assumes nothing.
use Prim.Native.Nat.{ℕ}
use mathlib.Core.Path.{◌≡◌, ◌∙◌}
use mathlib.Core.Bool.{false}
use Rattle.std.proofs.Common.{rules, tests, length, nat_eq}
use Rattle.std.proofs.lemmas.Iterator.{YieldsList-from_slice, YieldsList-from_zip, same_from_all}
use Rattle.std.specs.Bool.{one_answer}
use Rattle.sequences.proofs.Same.{same_list, differ_long}
use Rattle.twins.proofs.same_numbers.Goals as goal

unequal : (x y : ℕ) → nat_eq x y ≡ false → x ≡ y → ⊥
unequal x y e k = search (rules, tests)

pub returns-then-a-b : goal.returns-then-a-b
returns-then-a-b c =
    let d = same_from_all c.all.new.self _ _ _ _ c.all.ensures.ran (YieldsList-from_zip (YieldsList-from_slice c.args.a.now cc) (YieldsList-from_slice c.args.b.now cc)) (search rules) (λ x q k. search (rules, tests)) (λ x q k. search (rules, tests)) in
    one_answer _ _ d (same_list _ _)

pub returns-else-a-b : goal.returns-else-a-b
returns-else-a-b c =
    let e : nat_eq (length c.args.a.now) (length c.args.b.now) ≡ false = search (rules, tests) in
    e ∙ differ_long _ _ (unequal _ _ e)
