-- `qname_classes::key_of` meets its contract. Assumes nothing.
use Rattle.classes.proofs.Keys.{key_is}
use Rattle.qname_classes.proofs.key_of.Goals as goal

pub returns : goal.returns
returns c = key_is _ _ _ _ _ _ c.class_of-uri.ensures.0 c.class_of-prefix.ensures.0 c.class_of-local.ensures.0
