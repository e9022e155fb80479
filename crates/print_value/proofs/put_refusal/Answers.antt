-- `print_value::put_refusal` meets its contract. Assumes nothing.
use Rattle.print_value.proofs.Laws.{refusal_room, refusal_put}
use native.Mathlib.Omega.{arith}
use Rattle.print_value.proofs.put_refusal.Goals as goal

pub put_line-requires : goal.put_line-requires
put_line-requires c = (refusal_room c.args.number c.args.count (omega (arith, c.ranges.number)) (omega (arith, c.ranges.count)), omega (arith, c.requires))

pub returns : goal.returns
returns c = refusal_put c.args.number c.args.count c.put_line.ensures
