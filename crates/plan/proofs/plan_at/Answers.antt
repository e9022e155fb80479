-- `plan::plan_at` meets its contract: a payload that is too long or breaks its rule has no text. Assumes nothing.
use Rattle.plan.proofs.Plans.{text_long, text_broken, text_lawful}
use Rattle.plan.proofs.plan_at.Goals as goal

pub returns-then-payload-gt-LONGEST : goal.returns-then-payload-gt-LONGEST
returns-then-payload-gt-LONGEST c = text_long _ _ _ c.if-payload-gt-LONGEST.true

pub shape_at-requires : goal.shape_at-requires
shape_at-requires c = c.requires

pub plan_lawful-requires : goal.plan_lawful-requires
plan_lawful-requires c =
    let l = c.if-payload-gt-LONGEST.false in
    (text_lawful _ _ l c.shape_at.ensures c.obeys.ensures c.if-obeys.true, l)

pub returns-then-obeys : goal.returns-then-obeys
returns-then-obeys c = c.plan_lawful.ensures

pub returns : goal.returns
returns c = text_broken _ _ c.if-payload-gt-LONGEST.false c.shape_at.ensures c.obeys.ensures _ c.if-obeys.false
