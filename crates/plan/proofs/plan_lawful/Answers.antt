-- `plan::plan_lawful` meets its contract: the token's rule is what its kind relies on. Assumes nothing.
use Rattle.plan.proofs.Plans.{rule_on, text_kept}
use Rattle.plan.proofs.Rules.{ruled}
use mathlib.Core.Path.{sym}
use Rattle.plan.proofs.plan_lawful.Goals as goal

pub plan_kind-requires : goal.plan_kind-requires
plan_kind-requires c =
    let p = c.args.payload.now in
    (rule_on p (sym c.kind_of.ensures) (ruled c.args.token p c.requires.0), c.requires.1)

pub returns : goal.returns
returns c =
    text_kept _ _ c.requires.0 c.requires.1 c.kind_of.ensures c.plan_kind.ensures
