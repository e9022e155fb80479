-- `common::common_at` meets its contract: the end of an element here, the other two by their functions. Assumes nothing.
use Rattle.common.proofs.Commonest.{ends}
use Rattle.common.specs.Common.{Ready}
use borrow.Author.Rules.{rules}
use Rattle.common.proofs.common_at.Goals as goal

pub returns-then-doc-at-2 : goal.returns-then-doc-at-2
returns-then-doc-at-2 c =
    let a = c.args in
    let r : Ready a.doc.now a.v a.room = search rules in
    ends r c.if-doc-at-2.true c.if-v-eq0.false
