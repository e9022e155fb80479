-- `base64_text::put_groups` meets its contract. The invariant: the text of the first `k` groups is stored at the front.
use Prim.Native.Nat.{◌*◌}
use Rattle.base64_text.specs.Base64.{base64}
use Rattle.sequences.specs.Lists.{bytes_of}
use lib.ListN.{take}
use lib.Seq.{sets}
use mathlib.Core.Path.{◌≡◌}
use Rattle.base64_text.proofs.put_groups.Given as goal

abbrev pub invariant-loop-k : goal.invariant-loop-k
invariant-loop-k l = l.out ≡ sets l.initial.out 0 (bytes_of (base64 (take (3 * l.k) l.p)))
