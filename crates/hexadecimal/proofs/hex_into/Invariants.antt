-- `hexadecimal::hex_into` meets its contract. The invariant: the text of the first `i` bytes is stored at the front.
use Rattle.hexadecimal.specs.Hexadecimal.{hex}
use Rattle.sequences.specs.Lists.{bytes_of}
use lib.ListN.{take}
use lib.Seq.{sets}
use mathlib.Core.Path.{◌≡◌}
use Rattle.hexadecimal.proofs.hex_into.Given as goal

abbrev pub invariant-loop-i : goal.invariant-loop-i
invariant-loop-i l = l.out ≡ sets l.initial.out 0 (bytes_of (hex (take l.i l.p)))
