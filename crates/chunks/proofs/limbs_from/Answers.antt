-- `chunks::limbs_from` meets its contract. Assumes nothing.
use Rattle.chunks.proofs.Little.{limbs_joined}
use Rattle.chunks.proofs.limbs_from.Goals as goal

pub returns : goal.returns
returns c =
    let x = c.limb_at-a.ensures in
    let y = c.limb_at-b.ensures in
    let z = c.limb_at-c.ensures in
    let w = c.limb_at-d.ensures in (
      limbs_joined c.args.p.now c.args.from c.requires.1 x.0 y.0 z.0 w.0,
      record { a_fits = x.1; b_fits = y.1; c_fits = z.1; d_fits = w.1 },
    )
