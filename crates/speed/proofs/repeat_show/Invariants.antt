-- `speed::repeat_show` is safe and ends; the buffer keeps its length. Assumes nothing.
use Rattle.std.proofs.Common.{◌≡◌, length}
use Rattle.speed.proofs.repeat_show.Given as goal

abbrev pub invariant-loop : goal.invariant-loop
invariant-loop l = length l.buffer ≡ 262144
