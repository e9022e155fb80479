-- `rewriter::write_form` meets its contract. Assumes nothing.
use Prim.Native.Nat.{ℕ}
use Rattle.rewriter.specs.Forms.{form_in}
use Rattle.rewriter_contract.proofs.Forms.{form_written}
use lib.ListN.{length-replicate}
use mathlib.Core.Logic.{inl, inr}
use native.Mathlib.Omega.{arith}
use Rattle.rewriter.proofs.write_form.Goals as goal

pub walk-size-requires : goal.walk-size-requires
walk-size-requires c = let p = c.requires in (p.0, p.1, p.2, inl (omega (arith, length-replicate {A = ℕ} 1 0)))

pub walk-requires : goal.walk-requires
walk-requires c = let p = c.requires in (p.0, p.1, p.2, inr (let e = c.walk-size.ensures.past in let l = c.if-out-size.false in omega arith))

pub returns : goal.returns
returns c =
    let a = c.args in form_written (form_in a.source.now a.events.now a.read.events a.read.version) a.read.place a.out.now c.walk-size.ensures.past c.if-size-gt-LONGEST.false c.if-out-size.false c.walk.ensures
