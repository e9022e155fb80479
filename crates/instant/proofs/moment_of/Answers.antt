-- `instant::moment_of` meets its contract: each arm by its kind of payload. Assumes nothing.
use Rattle.instant.proofs.Ways.{lawful_on, moment_on}
use Rattle.instant.proofs.moment_of.Goals as goal

pub date-requires : goal.date-requires
date-requires c = lawful_on c.args.p.now c.in-Date2.is c.requires

pub date_time-requires : goal.date_time-requires
date_time-requires c = lawful_on c.args.p.now c.in-DateTime2.is c.requires

pub time-requires : goal.time-requires
time-requires c = lawful_on c.args.p.now c.in-Time2.is c.requires

pub date_time_offset-requires : goal.date_time_offset-requires
date_time_offset-requires c = lawful_on c.args.p.now c.in-DateTimeOffset.is c.requires

pub milliseconds-requires : goal.milliseconds-requires
milliseconds-requires c = lawful_on c.args.p.now c.in-Milliseconds.is c.requires

pub returns-in-Date2 : goal.returns-in-Date2
returns-in-Date2 c = moment_on _ c.in-Date2.is c.date.ensures

pub returns-in-DateTime2 : goal.returns-in-DateTime2
returns-in-DateTime2 c = moment_on _ c.in-DateTime2.is c.date_time.ensures

pub returns-in-Time2 : goal.returns-in-Time2
returns-in-Time2 c = moment_on _ c.in-Time2.is c.time.ensures

pub returns-in-DateTimeOffset : goal.returns-in-DateTimeOffset
returns-in-DateTimeOffset c = moment_on _ c.in-DateTimeOffset.is c.date_time_offset.ensures

pub returns-in-Milliseconds : goal.returns-in-Milliseconds
returns-in-Milliseconds c = moment_on _ c.in-Milliseconds.is c.milliseconds.ensures
