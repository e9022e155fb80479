-- `form_bytes::put_header` meets its contract: five bytes, one after the other. Assumes nothing.
use Rattle.form_bytes.proofs.Headers.{header_laid}
use Rattle.form_bytes.proofs.put_header.Goals as goal

pub returns : goal.returns
returns c =
    header_laid _ _ _ _ _ _ _ _ c.put.ensures c.put-2.ensures c.put-3.ensures c.put-4.ensures c.put-5.ensures
