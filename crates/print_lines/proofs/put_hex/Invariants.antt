-- `print_lines::put_hex` meets its contract: the digits of the bytes so far, from the last byte to the first. Assumes nothing.
use Rattle.std.proofs.Common.{◌≡◌, ◌+◌, ◌*◌, length}
use Rattle.hexadecimal.specs.Hexadecimal.{hex}
use Rattle.print_lines.specs.Lines.{PutBefore}
use Rattle.print_lines.proofs.Loops.{seen}
use Rattle.print_lines.proofs.put_hex.Given as goal

abbrev pub invariant-loop-b : goal.invariant-loop-b
invariant-loop-b l = PutBefore l.initial.text l.text l.end l.at (hex (seen l.yielded)) × (l.at + 2 * length l.yielded ≡ l.end)
