-- `rewriter::walk` meets its contract. Assumes nothing.
use Rattle.form_items.specs.Walk.{tables_of}
use Rattle.rewriter.proofs.Walks.{Inv}
use Rattle.rewriter.proofs.walk.Given as goal

abbrev pub invariant-loop-i : goal.invariant-loop-i
invariant-loop-i l = Inv (tables_of l.source) l.events l.source.texts.rows l.source.qrows l.count l.initial.out l.out l.defined.names l.defined.qnames l.w l.i
