-- `form_bytes::put_text` meets its contract: the length is half the number of bytes. Assumes nothing.
use Rattle.form_bytes.proofs.Values.{text_fits, text_laid}
use native.Mathlib.Omega.{arith}
use Rattle.form_bytes.proofs.put_text.Goals as goal

pub put_counted-requires : goal.put_counted-requires
put_counted-requires c =
    let p = c.requires in
    (p.0, p.1, p.2, omega arith, text_fits _ _ _ p.0 p.3)

pub returns : goal.returns
returns c = text_laid _ _ _ c.requires.0 c.put_counted.ensures
