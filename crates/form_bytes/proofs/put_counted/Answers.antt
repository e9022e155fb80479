-- `form_bytes::put_counted` meets its contract: the number, then the bytes. Assumes nothing.
use Rattle.form_output.proofs.Laws.{put_then, shortest_few, fits_after}
use native.Mathlib.Omega.{arith}
use Rattle.form_bytes.proofs.put_counted.Goals as goal

pub put_part-requires : goal.put_part-requires
put_part-requires c =
    let p = c.requires in
    let x = c.put_number-p.ensures in
    let n = shortest_few c.args.count in
    (p.0, p.1, omega (arith, x.past), fits_after _ x p.4)

pub returns : goal.returns
returns c = put_then c.put_number-p.ensures c.put_part.ensures
