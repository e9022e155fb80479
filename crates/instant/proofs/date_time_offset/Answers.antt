-- `instant::date_time_offset` meets its contract: whole days are carried, and the zone moves UTC into local time. Assumes nothing.
use Rattle.instant.proofs.Fields.{zoned_fields}
use Rattle.instant.proofs.Ways.{zoned_is}
use mathlib.Core.Path.{◌∙◌}
use native.Mathlib.Omega.{arith}
use Rattle.instant.proofs.date_time_offset.Goals as goal

pub fields_of-s-requires : goal.fields_of-s-requires
fields_of-s-requires c = let f = (zoned_fields _ c.requires).time in (f.fine, omega (arith, f.long))

pub zone_of-zone-requires : goal.zone_of-zone-requires
zone_of-zone-requires c = let f = (zoned_fields _ c.requires).time in omega (arith, f.long)

pub since_first-utc-requires : goal.since_first-utc-requires
since_first-utc-requires c =
    let f = (zoned_fields _ c.requires).time in
    let s = c.fields_of-s.ensures in
    (omega (arith, f.fine, s.0), omega (arith, f.day_last, s.2), omega (arith, s.3))

pub local_at-requires : goal.local_at-requires
local_at-requires c =
    let f = zoned_fields _ c.requires in
    let s = c.fields_of-s.ensures in
    (omega (arith, f.time.fine, s.0), c.since_first-utc.ensures.1, omega (arith, f.near, c.zone_of-zone.ensures.1))

pub returns-in_err-local : goal.returns-in_err-local
returns-in_err-local c =
    let s = c.fields_of-s.ensures in
    let z = c.zone_of-zone.ensures in
    c.from_residual.ensures ∙ zoned_is _ s.0 s.1 s.2 c.since_first-utc.ensures.0 c.in_err-local.was z.0 z.1 c.local_at.ensures

pub returns : goal.returns
returns c =
    let s = c.fields_of-s.ensures in
    let z = c.zone_of-zone.ensures in
    zoned_is _ s.0 s.1 s.2 c.since_first-utc.ensures.0 c.in_ok-local.was z.0 z.1 c.local_at.ensures
