-- `plan::signed` meets its contract: the upper half of the numbers is below zero. Assumes nothing.
use Rattle.plan.proofs.Plans.{half_sub, signed_minus, signed_plus}
use Rattle.plan.proofs.signed.Goals as goal

pub overflow_sub-half : goal.overflow_sub-half
overflow_sub-half c = half_sub _ _ _ c.half_of-half.ensures c.word_of-value.ensures.1

pub returns-then-half-value : goal.returns-then-half-value
returns-then-half-value c =
    let l = c.word_of-value.ensures in
    signed_minus _ _ _ c.of_word-size.ensures.1 c.requires l.0 l.1 c.half_of-half.ensures
    c.if-half-value.true c.of_word-size.ensures.0

pub returns : goal.returns
returns c =
    let l = c.word_of-value.ensures in
    signed_plus _ _ _ c.of_word-size-2.ensures.1 c.requires l.0 l.1 c.half_of-half.ensures
    c.if-half-value.false c.of_word-size-2.ensures.0
