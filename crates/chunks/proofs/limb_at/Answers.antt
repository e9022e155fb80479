-- `chunks::limb_at` meets its contract. Assumes nothing.
use Rattle.chunks.proofs.Little.{limb_within, limb_there, limb_none}
use Rattle.chunks.proofs.limb_at.Goals as goal

pub little_at-requires : goal.little_at-requires
little_at-requires c =
    limb_within _ _ _ c.requires.0 (c.requires.1 c.if-skip-p.true)

pub returns-then-skip-p : goal.returns-then-skip-p
returns-then-skip-p c =
    limb_there c.args.p.now c.args.from c.args.skip c.requires.0
    (c.requires.1 c.if-skip-p.true) c.little_at.ensures.0 c.little_at.ensures.1

pub returns : goal.returns
returns c =
    limb_none c.args.p.now c.args.from c.args.skip c.if-skip-p.false
