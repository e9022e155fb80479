-- `moment::put_date` meets its contract: day, month and year from the right. Assumes nothing.
use Rattle.moment.proofs.Puts.{digits_long, field_long, date_put}
use native.Mathlib.Omega.{arith}
use Rattle.moment.proofs.put_date.Goals as goal

pub put_field-requires : goal.put_field-requires
put_field-requires c = omega (arith, digits_long _ _ _ c.put_last.ensures.put, c.requires.1)

pub put_field-requires-2 : goal.put_field-requires-2
put_field-requires-2 c = omega (arith, digits_long _ _ _ c.put_last.ensures.put, field_long _ _ _ _ c.put_field.ensures, c.requires.1)

pub returns : goal.returns
returns c =
    let date = c.date_of-date in
    rw (← date.ensures) (date_put _ date.result (rw c.from.ensures at c.put_last.ensures.put) (rw c.from-2.ensures at c.put_field.ensures) (rw c.from-3.ensures at c.put_field-2.ensures))
