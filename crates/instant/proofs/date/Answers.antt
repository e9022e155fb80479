-- `instant::date` meets its contract: three bytes are the day. Assumes nothing.
use Rattle.instant.proofs.Fields.{date_field, date_read}
use Rattle.instant.proofs.Ways.{date_is}
use native.Mathlib.Omega.{arith}
use Rattle.instant.proofs.date.Goals as goal

pub little_at-day-requires : goal.little_at-day-requires
little_at-day-requires c = let f = date_field _ c.requires in (omega arith, omega (arith, f.long), omega arith)

pub returns : goal.returns
returns c =
    date_is _ (date_read c.args.p.now (date_field _ c.requires).long c.little_at-day.ensures.0)
