-- `steps::turn` meets its contract: a function for each step. Assumes nothing.
use Rattle.steps.proofs.Known.{found_at}
use mathlib.Core.Path.{refl}
use native.Mathlib.Omega.{arith}
use Rattle.steps.proofs.turn.Goals as goal

pub define_name-requires : goal.define_name-requires
define_name-requires c =
    omega (arith, c.requires.0, found_at c.args.size c.args.v c.args.room c.in-Ok-Name.is (rw c.in-Ok-Name.is at c.in-Ok-Name.field-0-is) c.requires.1)

pub define_qname-requires : goal.define_qname-requires
define_qname-requires c =
    omega (arith, c.requires.0, found_at c.args.size c.args.v c.args.room c.in-Ok-Qname.is (rw c.in-Ok-Qname.is at c.in-Ok-Qname.field-0-is) c.requires.1)

pub add_event-requires : goal.add_event-requires
add_event-requires c =
    omega (arith, c.requires.0, found_at c.args.size c.args.v c.args.room c.in-Ok-Event.is (rw c.in-Ok-Event.is at c.in-Ok-Event.field-0-is) c.requires.1)

pub add_reference-requires : goal.add_reference-requires
add_reference-requires c =
    omega (arith, c.requires.0, found_at c.args.size c.args.v c.args.room c.in-Ok-Refer.is (rw c.in-Ok-Refer.is at c.in-Ok-Refer.field-0-is) c.requires.1)

pub add_element-requires : goal.add_element-requires
add_element-requires c =
    omega (arith, c.requires.0, found_at c.args.size c.args.v c.args.room c.in-Ok-Open.is (rw c.in-Ok-Open.is at c.in-Ok-Open.field-0-is) c.requires.1)

pub add_pi-requires : goal.add_pi-requires
add_pi-requires c =
    omega (arith, c.requires.0, found_at c.args.size c.args.v c.args.room c.in-Ok-Pi.is (rw c.in-Ok-Pi.is at c.in-Ok-Pi.field-0-is) c.requires.1)

pub close_element-requires : goal.close_element-requires
close_element-requires c =
    omega (arith, c.requires.0, found_at c.args.size c.args.v c.args.room c.in-Ok-Close.is (rw c.in-Ok-Close.is at c.in-Ok-Close.field-0-is) c.requires.1)

pub enter_document-requires : goal.enter_document-requires
enter_document-requires c =
    omega (arith, c.requires.0, found_at c.args.size c.args.v c.args.room c.in-Ok-Nest.is (rw c.in-Ok-Nest.is at c.in-Ok-Nest.field-0-is) c.requires.1)

pub leave_document-requires : goal.leave_document-requires
leave_document-requires c =
    omega (arith, c.requires.0, found_at c.args.size c.args.v c.args.room c.in-Ok-Leave.is (rw c.in-Ok-Leave.is at c.in-Ok-Leave.field-0-is) c.requires.1)

pub returns-in-Ok-End : goal.returns-in-Ok-End
returns-in-Ok-End c = rw (c.in-Ok-End.is, (rw c.in-Ok-End.is at c.in-Ok-End.field-0-is)) (record { names_are = refl; qnames_are = refl; events_are = refl; stacks_are = refl; view_is = refl })

pub returns-in-Ok-Name : goal.returns-in-Ok-Name
returns-in-Ok-Name c = rw (c.in-Ok-Name.is, (rw c.in-Ok-Name.is at c.in-Ok-Name.field-0-is)) (record { names_are = c.define_name.ensures.0; qnames_are = refl; events_are = refl; stacks_are = c.define_name.ensures.1; view_is = c.define_name.ensures.2 })

pub returns-in-Ok-Qname : goal.returns-in-Ok-Qname
returns-in-Ok-Qname c = rw (c.in-Ok-Qname.is, (rw c.in-Ok-Qname.is at c.in-Ok-Qname.field-0-is)) (record { names_are = refl; qnames_are = c.define_qname.ensures.0; events_are = refl; stacks_are = c.define_qname.ensures.1; view_is = c.define_qname.ensures.2 })

pub returns-in-Ok-Skip : goal.returns-in-Ok-Skip
returns-in-Ok-Skip c = rw (c.in-Ok-Skip.is, (rw c.in-Ok-Skip.is at c.in-Ok-Skip.field-0-is)) (record { names_are = refl; qnames_are = refl; events_are = refl; stacks_are = refl; view_is = c.skip.ensures })

pub returns-in-Ok-Flush : goal.returns-in-Ok-Flush
returns-in-Ok-Flush c = rw (c.in-Ok-Flush.is, (rw c.in-Ok-Flush.is at c.in-Ok-Flush.field-0-is)) (record { names_are = refl; qnames_are = refl; events_are = refl; stacks_are = refl; view_is = c.past_flush.ensures })

pub returns-in-Ok-Event : goal.returns-in-Ok-Event
returns-in-Ok-Event c = rw (c.in-Ok-Event.is, (rw c.in-Ok-Event.is at c.in-Ok-Event.field-0-is)) (record { names_are = refl; qnames_are = refl; events_are = c.add_event.ensures.0; stacks_are = refl; view_is = c.add_event.ensures.1 })

pub returns-in-Ok-Refer : goal.returns-in-Ok-Refer
returns-in-Ok-Refer c = rw (c.in-Ok-Refer.is, (rw c.in-Ok-Refer.is at c.in-Ok-Refer.field-0-is)) (record { names_are = refl; qnames_are = refl; events_are = c.add_reference.ensures.0; stacks_are = refl; view_is = c.add_reference.ensures.1 })

pub returns-in-Ok-Open : goal.returns-in-Ok-Open
returns-in-Ok-Open c = rw (c.in-Ok-Open.is, (rw c.in-Ok-Open.is at c.in-Ok-Open.field-0-is)) (record { names_are = refl; qnames_are = refl; events_are = c.add_element.ensures.0; stacks_are = refl; view_is = c.add_element.ensures.1 })

pub returns-in-Ok-Pi : goal.returns-in-Ok-Pi
returns-in-Ok-Pi c = rw (c.in-Ok-Pi.is, (rw c.in-Ok-Pi.is at c.in-Ok-Pi.field-0-is)) (record { names_are = refl; qnames_are = refl; events_are = c.add_pi.ensures.0; stacks_are = refl; view_is = c.add_pi.ensures.1 })

pub returns-in-Ok-Close : goal.returns-in-Ok-Close
returns-in-Ok-Close c = rw (c.in-Ok-Close.is, (rw c.in-Ok-Close.is at c.in-Ok-Close.field-0-is)) (record { names_are = refl; qnames_are = refl; events_are = c.close_element.ensures.0; stacks_are = refl; view_is = c.close_element.ensures.1 })

pub returns-in-Ok-Nest : goal.returns-in-Ok-Nest
returns-in-Ok-Nest c = rw (c.in-Ok-Nest.is, (rw c.in-Ok-Nest.is at c.in-Ok-Nest.field-0-is)) (record { names_are = refl; qnames_are = refl; events_are = c.enter_document.ensures.0; stacks_are = c.enter_document.ensures.1; view_is = c.enter_document.ensures.2 })

pub returns-in-Ok-Leave : goal.returns-in-Ok-Leave
returns-in-Ok-Leave c = rw (c.in-Ok-Leave.is, (rw c.in-Ok-Leave.is at c.in-Ok-Leave.field-0-is)) (record { names_are = refl; qnames_are = refl; events_are = c.leave_document.ensures.0; stacks_are = refl; view_is = c.leave_document.ensures.1 })
