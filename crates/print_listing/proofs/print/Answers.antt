-- `print_listing::print` meets its contract: one law for each way out. Assumes nothing.
use Prim.Native.Nat.{ℕ}
use Rattle.print_listing.proofs.Laws.{refused_room, counts_room}
use Rattle.print_listing.proofs.Texts.{refusal_printed, pairs_few, pairs_printed}
use Rattle.print_listing.specs.Room.{pair_numbers}
use lib.ListN.{length-replicate}
use native.Mathlib.Omega.{arith}
use Rattle.print_listing.proofs.print.Goals as goal

pub put_line-requires : goal.put_line-requires
put_line-requires c =
    let a = c.list_full-a.result in
    (refused_room a.number a.place (omega arith) (omega arith), omega (arith, c.requires))

pub returns-then-a-ne0 : goal.returns-then-a-ne0
returns-then-a-ne0 c =
    let p = rw (← c.requires) at c.put_line.ensures in
    (refusal_printed c.list_full-a.ensures c.if-a-ne0.true p, omega (arith, p.place, c.requires))

pub put_pairs-end-requires : goal.put_pairs-end-requires
put_pairs-end-requires c =
    let f = c.list_full-a.ensures in
    let few = pairs_few f c.if-a-ne0.false (length-replicate {A = ℕ} pair_numbers 0) in
    (omega (arith, few), omega (arith, few, c.requires))

pub put_line-requires-2 : goal.put_line-requires-2
put_line-requires-2 c =
    let a = c.list_full-a.result in
    let p = c.put_pairs-end.ensures in
    (counts_room a.records a.pairs (omega arith) (omega arith) p.1, omega (arith, p.0.place, p.0.long))

pub returns : goal.returns
returns c =
    let f = c.list_full-a.ensures in
    let p = c.put_pairs-end.ensures in
    let q = c.put_line-2.ensures in
    (pairs_printed f c.if-a-ne0.false (length-replicate {A = ℕ} pair_numbers 0) p.0 q, omega (arith, p.0.place, q.place, c.requires))
