-- `value::read` meets its contract: the extent, then the rules. Assumes nothing.
use mathlib.Core.Path.{◌∙◌, ap}
use Rattle.std.specs.Prelude.{Ok}
use Rattle.std.proofs.Common.{rules}
use Rattle.value.proofs.Fields.{here_inside, field_on, obeyed, broken}
use Rattle.value.specs.Fields.{field_at}
use native.Mathlib.Omega.{arith}
use Rattle.value.proofs.read.Goals as goal

pub returns-in_err-field : goal.returns-in_err-field
unfolding field_at
returns-in_err-field c = search rules

pub overflow_add-place : goal.overflow_add-place
overflow_add-place c = let w = here_inside _ _ _ c.extent_at.ensures (c.in_ok-field.was ∙ ap Ok c.in-Payload.is) in omega arith

pub slice_bounds-obeys-end : goal.slice_bounds-obeys-end
slice_bounds-obeys-end c = let w = here_inside _ _ _ c.extent_at.ensures (c.in_ok-field.was ∙ ap Ok c.in-Payload.is) in omega arith

pub returns-then-not-obeys : goal.returns-then-not-obeys
returns-then-not-obeys c = broken _ _ _ c.extent_at.ensures (c.in_ok-field.was ∙ ap Ok c.in-Payload.is) c.obeys.ensures (search rules)

pub returns-else-not-obeys : goal.returns-else-not-obeys
returns-else-not-obeys c = obeyed _ _ _ c.extent_at.ensures (c.in_ok-field.was ∙ ap Ok c.in-Payload.is) c.obeys.ensures (search rules)

pub returns-in_default : goal.returns-in_default
returns-in_default c =
    let g = c.in_ok-field.was ∙ ap Ok c.in_default.is in
    (ap Ok c.in_default.is ∙ field_on _ _ c.args.at c.extent_at.ensures g, here_inside _ _ _ c.extent_at.ensures (c.in_ok-field.was))
