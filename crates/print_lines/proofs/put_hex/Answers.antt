use Rattle.std.proofs.Common.{[], ◌∷◌, arith, length-append}
use Rattle.std.proofs.lemmas.Iterator.Adapters.{YieldsList-from_rev_slice}
use Rattle.std.proofs.lemmas.Iterator.Consumers.{YieldsList-turn, YieldsList-end}
use Rattle.std.proofs.lemmas.List.{length-reverse}
use Rattle.hexadecimal.specs.Hexadecimal.{hex}
use Rattle.print_lines.proofs.Laws.{none_put}
use Rattle.print_lines.proofs.Loops.{hex_stored, hex_end}
use Rattle.print_lines.proofs.put_hex.Goals as goal

pub loop-b-init : goal.loop-b-init
unfolding hex
loop-b-init c = (none_put c.args.text.now c.args.end, omega arith)

pub loop-b-preserved : goal.loop-b-preserved
loop-b-preserved c =
    let p = c.loop-b.invariant in
    let t = YieldsList-turn (YieldsList-from_rev_slice c.args.bytes.now cc) c.loop-b.yielded _ c.loop-b.yielded_by _ _ c.in-Some.b c.in-Some.is c.next.ensures.steps in (
      hex_stored c.loop-b.yielded c.in-Some.b p.0 (omega (arith, t.0, length-reverse c.args.bytes.now, p.1, c.requires.0)) c.requires.1 c.hex_digit-in-loop-b.ensures c.hex_digit.ensures,
      omega (arith, t.0, length-reverse c.args.bytes.now, p.1, c.requires.0, length-append c.loop-b.yielded (c.in-Some.b ∷ [])),
    )

pub returns : goal.returns
returns c =
    let t = YieldsList-end (YieldsList-from_rev_slice c.args.bytes.now cc) c.loop-b.yielded _ c.loop-b.yielded_by _ _ c.in-None.is c.next.ensures.steps in
    hex_end c.loop-b.yielded c.args.bytes.now t.0 c.loop-b.invariant.0
