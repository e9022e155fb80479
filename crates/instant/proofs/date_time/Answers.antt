-- `instant::date_time` meets its contract: whole days are carried into the date. Assumes nothing.
use Rattle.instant.proofs.Fields.{date_time_fields}
use Rattle.instant.proofs.Ways.{date_time_is}
use mathlib.Core.Path.{◌∙◌}
use native.Mathlib.Omega.{arith}
use Rattle.instant.proofs.date_time.Goals as goal

pub fields_of-s-requires : goal.fields_of-s-requires
fields_of-s-requires c = let f = date_time_fields _ c.requires in (f.fine, omega (arith, f.long))

pub since_first-requires : goal.since_first-requires
since_first-requires c =
    let f = date_time_fields _ c.requires in
    let s = c.fields_of-s.ensures in
    (omega (arith, f.fine, s.0), omega (arith, f.day_last, s.2), omega (arith, s.3))

pub date_at-requires : goal.date_at-requires
date_at-requires c =
    let f = date_time_fields _ c.requires in
    omega (arith, f.fine, c.fields_of-s.ensures.0)

pub returns-in_err-local : goal.returns-in_err-local
returns-in_err-local c =
    let s = c.fields_of-s.ensures in
    c.from_residual.ensures ∙ date_time_is _ s.0 s.1 s.2 c.since_first.ensures.0 c.in_err-local.was c.date_at.ensures

pub returns : goal.returns
returns c =
    let s = c.fields_of-s.ensures in
    date_time_is _ s.0 s.1 s.2 c.since_first.ensures.0 c.in_ok-local.was c.date_at.ensures
