-- `instant::time` meets its contract: what is left of whole days. Assumes nothing.
use Rattle.instant.proofs.Fields.{time_only_fields}
use Rattle.instant.proofs.Ways.{time_is}
use native.Mathlib.Omega.{arith}
use Rattle.instant.proofs.time.Goals as goal

pub fields_of-s-requires : goal.fields_of-s-requires
fields_of-s-requires c = let f = time_only_fields _ c.requires in (f.fine, omega (arith, f.long))

pub per_day-requires : goal.per_day-requires
per_day-requires c =
    let f = time_only_fields _ c.requires in
    omega (arith, f.fine, c.fields_of-s.ensures.0)

pub returns : goal.returns
returns c =
    let f = c.fields_of-s.ensures in
    time_is _ f.0 f.1 c.per_day.ensures.0
