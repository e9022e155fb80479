-- `rewriter::rewrite` meets its contract. Assumes nothing.
use Prim.Native.Nat.{ℕ}
use Rattle.rewriter_contract.proofs.Forms.{not_read, names_asks, qnames_asks, prepared, version_few, formed}
use lib.ListN.{replicate, length-replicate}
use Rattle.rewriter.proofs.rewrite.Goals as goal

pub returns-then-read-ne0 : goal.returns-then-read-ne0
returns-then-read-ne0 c =
    let a = c.args in not_read a.doc.now c.read-read.ensures a.out.now c.if-read-ne0.true c.refused.ensures

pub name_classes-requires : goal.name_classes-requires
name_classes-requires c =
    let a = c.args in names_asks a.doc.now c.read-read.ensures c.if-read-ne0.false (replicate {A = ℕ} 1024 0) (length-replicate {A = ℕ} 1024 0)

pub qname_classes-requires : goal.qname_classes-requires
qname_classes-requires c =
    let a = c.args in let n = c.name_classes.ensures in qnames_asks a.doc.now c.read-read.ensures c.if-read-ne0.false _ (replicate {A = ℕ} 1024 0) n.1 (length-replicate {A = ℕ} 1024 0) n.0

pub write_form-requires : goal.write_form-requires
write_form-requires c =
    let a = c.args in let n = c.name_classes.ensures in let q = c.qname_classes.ensures in let h = c.read-read.ensures in let ok = c.if-read-ne0.false in (c.table-table.ensures, prepared a.doc.now h ok _ _ n.1 q.1 n.0 q.0, version_few a.doc.now h ok)

pub returns : goal.returns
returns c =
    let a = c.args in formed a.doc.now c.read-read.ensures c.if-read-ne0.false a.out.now _ c.write_form.ensures
