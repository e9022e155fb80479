-- `print_rows::put_rows` meets its contract: what is put last stands first. Assumes nothing.
use Rattle.machine.specs.Tables.{event_rows_in}
use Rattle.print_rows.proofs.Texts.{rows_put}
use native.Mathlib.Omega.{arith}
use Rattle.print_rows.proofs.put_rows.Goals as goal

pub returns : goal.returns
returns c =
    let x = c.args in
    let names = c.put_lines.ensures in
    let qnames = c.put_lines-before_qnames.ensures in
    let events = c.put_events-before_events.ensures in (
      rows_put x.n x.q x.names.now x.qnames.now (event_rows_in x.e x.events.now) c.requires.4 c.requires.5
          events.0 qnames.0 names.0,
      omega (arith, c.requires.1, c.requires.2, names.1, qnames.1, events.1),
    )
