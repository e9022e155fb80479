-- The front of a list of which a middle part was written by a read.
use Rattle.std.proofs.Common.{◌≡◌, ℕ, ◌+◌, ◌-◌, ◌≤◌, List, ◌++◌, arith, length, take, slice_range, sym, ap, ◌∙◌, subst, le_refl, drop_at, length-take-le}
use Rattle.std.proofs.lemmas.Slice.{take-put_mid_below}
use Rattle.std.specs.Io.KnownBytes.{Consumes}
use Rattle.std.proofs.KnownBytes.{Consumes-trans}
use Rattle.std.specs.declared.option.Option.{Option}
use borrow.Rule.Slice.PartMut.{put_mid, post_of}
use lib.Seq.{take-add, take-append-le}

-- a front that is as it was, and the part behind it
take_split : (a b : ℕ) (old new : List ℕ) → a ≤ b → take a new ≡ take a old → take a old ++ slice_range new a b ≡ take b new
take_split a b old new h front =
    let same : a + (b - a) ≡ b = omega arith in
    ap (λ l. l ++ slice_range new a b) (sym front) ∙ sym (take-add a (b - a) new) ∙ ap (λ n. take n new) same

-- the part that was written begins with what was put there
slice_range-put_mid : (a k n : ℕ) (xs ys : List ℕ) → a ≤ length xs → n ≤ length ys → slice_range (put_mid a k xs ys) a (a + n) ≡ take n ys
slice_range-put_mid a k n xs ys within fits =
    let same : (a + n) - a ≡ n = omega arith in
    let after = post_of a k xs in
    ap (take ((a + n) - a)) (drop_at (take a xs) (ys ++ after) a (length-take-le a xs within)) ∙ ap (λ m. take m (ys ++ after)) same ∙ take-append-le n ys after fits

-- a read behind the front makes it longer by what the reader gave
pub front_longer : (a b c : Option (List ℕ)) (at room n size : ℕ) (xs ys : List ℕ) → at ≤ length xs → n ≤ length ys → size ≡ at + n
    → Consumes a b (take at xs) → Consumes b c (take n ys) → Consumes a c (take size (put_mid at room xs ys))
front_longer a b c at room n size xs ys within fits is before read =
    let part = slice_range-put_mid at room n xs ys within fits in
    let joined = take_split at (at + n) xs (put_mid at room xs ys) (omega arith) (take-put_mid_below _ _ _ _ _ (le_refl _) within) in
    let grown = subst (Consumes a c) (ap (λ l. take at xs ++ l) (sym part) ∙ joined) (Consumes-trans a b c _ _ before read) in
    subst (λ k. Consumes a c (take k (put_mid at room xs ys))) (sym is) grown
