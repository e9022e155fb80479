-- `form_items::put_nest` meets its contract. Assumes nothing.
use Rattle.form_items.proofs.Bytes.{byte_then}
use Rattle.form_items.proofs.put_nest.Goals as goal

pub returns : goal.returns
returns c = (byte_then c.put.ensures c.put_header.ensures, c.clear.ensures, c.clear-2.ensures)
