-- `render::render` meets its contract. The loop's invariant is `RowsDone`: what the arrays hold when k rows are done. Assumes nothing.
use Rattle.render.proofs.Loop.{RowsDone}
use Rattle.render.proofs.render.Given as goal

abbrev pub invariant-loop-k : goal.invariant-loop-k
invariant-loop-k l = RowsDone l.doc l.names l.qnames l.events l.rows l.qrows l.count l.initial.syms l.initial.starts l.initial.hashes l.syms l.starts l.hashes l.k l.p
