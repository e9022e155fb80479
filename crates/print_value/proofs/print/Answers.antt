-- `print_value::print` meets its contract. Assumes nothing.
use Prim.Native.Nat.{ℕ}
use Rattle.print_lines.proofs.Laws.{whole_put}
use Rattle.print_value.proofs.Values.{part_short, lines_shown, printed_none, printed_some, payload_is, rest_bytes}
use Rattle.sequences.specs.Lists.{Bytes}
use lib.ListN.{length-replicate}
use mathlib.Core.Path.{◌∙◌, sym}
use native.Mathlib.Omega.{arith}
use Rattle.print_value.proofs.print.Goals as goal

pub returns-in_default : goal.returns-in_default
returns-in_default c =
    let p = c.put_refusal.ensures in
    (whole_put c.requires p (sym (printed_none c.args.input.now (omega (arith, c.in_default.len_below)))), omega (arith, p.place))

pub put_shown-requires : goal.put_shown-requires
put_shown-requires c =
    let b : Bytes c.args.input.now = record { each = λ k. omega (arith, c.type_inv.input k) } in
    let e = payload_is c.args.input.now in
    (c.requires, part_short (rw e (rest_bytes b)) c.show-shown.ensures (length-replicate {A = ℕ} 262226 0))

pub returns : goal.returns
returns c =
    let b : Bytes c.args.input.now = record { each = λ k. omega (arith, c.type_inv.input k) } in
    let e = payload_is c.args.input.now in
    let p = c.put_shown.ensures in
    let l = lines_shown (rw e (rest_bytes b)) c.show-shown.ensures (length-replicate {A = ℕ} 262226 0) in
    (whole_put c.requires p (l ∙ rw e (sym (printed_some c.args.input.now (λ e. omega (arith, e, c.in-len1-up.len_at_least))))), omega (arith, p.place))
