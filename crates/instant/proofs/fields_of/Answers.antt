-- `instant::fields_of` meets its contract: each field stands where the time before it ends. Assumes nothing.
use Rattle.instant.proofs.Fields.{five_bytes, ticks_read, day_read}
use mathlib.Core.Path.{refl}
use native.Mathlib.Omega.{arith}
use Rattle.instant.proofs.fields_of.Goals as goal

pub returns : goal.returns
returns c =
    let size = c.time_bytes-date.ensures in
    let long = c.requires.1 in
    let ticks = c.little_at-ticks.ensures in (
      refl,
      ticks_read _ size.0 (omega (arith, size.0, long)) ticks.0,
      day_read _ size.0 (omega (arith, size.0, long)) c.little_at-day.ensures.0,
      five_bytes (omega (arith, size.2)) ticks.1,
    )
