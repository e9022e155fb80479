use Rattle.name_classes.proofs.Texts.{hash_next, hash_end}
use Rattle.name_classes.proofs.hash_of.Goals as goal

pub loop-k-preserved : goal.loop-k-preserved
loop-k-preserved c =
    hash_next c.args.text.now _ _ _ _ c.loop-k.invariant c.loop-k-test.true
    (rw (← c.from.ensures, ← c.from-in-loop-k.ensures)) c.mix-h.ensures

pub returns : goal.returns
returns c = hash_end c.args.text.now _ _ c.loop-k.invariant c.loop-k-test.false
