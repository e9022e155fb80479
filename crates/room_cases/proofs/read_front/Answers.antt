-- `room_cases::read_front` is safe. Assumes nothing.
use lib.ListN.{length-take}
use native.Mathlib.Omega.{arith}
use Rattle.room_cases.proofs.read_front.Goals as goal

pub slice_bounds-read-end-2 : goal.slice_bounds-read-end-2
slice_bounds-read-end-2 c = simp length-take (omega arith)

pub slice_bounds-read-end-4 : goal.slice_bounds-read-end-4
slice_bounds-read-end-4 c = simp length-take (omega arith)

pub slice_bounds-read-end-6 : goal.slice_bounds-read-end-6
slice_bounds-read-end-6 c = simp length-take (omega arith)
