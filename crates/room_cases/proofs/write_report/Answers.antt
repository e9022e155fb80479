-- `room_cases::write_report` is safe and ends. Assumes nothing.
use Prim.Native.Nat.{ℕ}
use lib.ListN.{length-replicate}
use native.Mathlib.Omega.{arith}
use Rattle.room_cases.proofs.write_report.Goals as goal

pub put_rows-end-requires : goal.put_rows-end-requires
put_rows-end-requires g c = (
  length-replicate {A = ℕ} 239771 0,
  omega arith,
  omega arith,
  omega arith,
  omega arith,
  omega arith,
  omega arith,
)

pub put_answer-from-requires : goal.put_answer-from-requires
put_answer-from-requires g c = let p = c.put_rows-end.ensures in (p.1, omega (arith, p.0.place, p.0.long, length-replicate {A = ℕ} 239771 0))

pub slice_bounds-write_all-count : goal.slice_bounds-write_all-count
slice_bounds-write_all-count g c = omega (arith, c.put_answer-from.ensures.place, c.put_rows-end.ensures.0.place)

pub slice_bounds-write_all-start : goal.slice_bounds-write_all-start
slice_bounds-write_all-start g c = omega (arith, c.put_answer-from.ensures.place, c.put_rows-end.ensures.0.place)

pub slice_bounds-write_all-end : goal.slice_bounds-write_all-end
slice_bounds-write_all-end g c = omega (arith, c.put_answer-from.ensures.place, c.put_rows-end.ensures.0.place)
