-- `chunks::of_limbs` meets its contract. Assumes nothing.
use Rattle.chunks.proofs.Division.{chunks}
use Rattle.chunks.proofs.of_limbs.Goals as goal

pub returns : goal.returns
returns c =
    chunks c.requires c.divide-r.ensures c.divide-t.ensures
    c.divide-v.ensures c.divide-x.ensures
