-- `instant::date_at` meets its contract: whole days, and what is left of them. Assumes nothing.
use Rattle.instant.proofs.Ways.{dated_none, dated_at}
use Rattle.instant.proofs.date_at.Goals as goal

pub returns-then-from-day : goal.returns-then-from-day
returns-then-from-day c = dated_none _ _ c.per_day-whole.ensures.0 (rw c.from.ensures at c.if-from-day.true)

pub returns : goal.returns
returns c = dated_at _ _ c.per_day-whole.ensures.0 (rw c.from.ensures at c.if-from-day.false)
