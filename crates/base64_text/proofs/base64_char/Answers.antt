-- `base64_text::base64_char` meets its contract. By the place in the group of four, and by whether the group has the byte. Assumes nothing.
use Rattle.base64_text.proofs.Base64.{group_inside, last_of_four, unit_first, unit_second, unit_third, unit_third_none, unit_fourth, unit_fourth_none}
use native.Mathlib.Omega.{arith}
use Rattle.base64_text.proofs.base64_char.Goals as goal

pub overflow_mul-i : goal.overflow_mul-i
overflow_mul-i c = let q = group_inside _ _ c.requires.1 in omega arith

pub overflow_add-i : goal.overflow_add-i
overflow_add-i c = let q = group_inside _ _ c.requires.1 in omega arith

pub overflow_add-i-2 : goal.overflow_add-i-2
overflow_add-i-2 c = let q = group_inside _ _ c.requires.1 in omega arith

pub overflow_add-i-in-2 : goal.overflow_add-i-in-2
overflow_add-i-in-2 c = let q = group_inside _ _ c.requires.1 in omega arith

pub returns-then-i-p : goal.returns-then-i-p
returns-then-i-p c =
    unit_third _ _ c.requires.1 c.byte_or_zero-a.ensures
    c.byte_or_zero-b.ensures c.byte_or_zero-c.ensures c.in-2.is c.if-i-p.true
    c.letter_of-then-i-p.ensures

pub overflow_add-i-in_default : goal.overflow_add-i-in_default
overflow_add-i-in_default c = let q = group_inside _ _ c.requires.1 in omega arith

pub returns-then-i-p-2 : goal.returns-then-i-p-2
returns-then-i-p-2 c =
    let r = c.in_default.in_default-own.rest in
    unit_fourth _ _ c.requires.1 c.byte_or_zero-a.ensures
    c.byte_or_zero-b.ensures c.byte_or_zero-c.ensures (last_of_four _ r.0.0.1 r.0.1 r.1)
    c.if-i-p-2.true c.letter_of-then-i-p-2.ensures

pub returns-in-0 : goal.returns-in-0
returns-in-0 c =
    unit_first _ _ c.requires.1 c.byte_or_zero-a.ensures
    c.byte_or_zero-b.ensures c.byte_or_zero-c.ensures c.in-0.is c.letter_of.ensures

pub returns-in-1 : goal.returns-in-1
returns-in-1 c =
    unit_second _ _ c.requires.1 c.byte_or_zero-a.ensures
    c.byte_or_zero-b.ensures c.byte_or_zero-c.ensures c.in-1.is c.letter_of-in-1.ensures

pub returns-else-i-p : goal.returns-else-i-p
returns-else-i-p c =
    unit_third_none _ _ c.requires.1 c.byte_or_zero-a.ensures
    c.byte_or_zero-b.ensures c.byte_or_zero-c.ensures c.in-2.is c.if-i-p.false

pub returns-else-i-p-2 : goal.returns-else-i-p-2
returns-else-i-p-2 c =
    let r = c.in_default.in_default-own.rest in
    unit_fourth_none _ _ c.requires.1 c.byte_or_zero-a.ensures
    c.byte_or_zero-b.ensures c.byte_or_zero-c.ensures (last_of_four _ r.0.0.1 r.0.1 r.1) c.if-i-p-2.false
