-- `qname_classes::qname_classes` meets its contract. The invariant is `Keyed`: the keys of the rows passed are stored, and the rows are
use Rattle.qname_classes.proofs.Qnames.{Keyed}
use Rattle.qname_classes.proofs.qname_classes.Given as goal

abbrev pub invariant-loop-r : goal.invariant-loop-r
invariant-loop-r l =
    Keyed l.doc l.names l.rows l.qnames l.count l.classes l.qclasses l.tree l.keys l.r
