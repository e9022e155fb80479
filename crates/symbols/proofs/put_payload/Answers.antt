-- `symbols::put_payload` meets its contract: one way for each kind of plan. Assumes nothing.
use Rattle.symbols.proofs.Rooms.{plan_room}
use Rattle.symbols.proofs.Texts.{small_of, blob_of}
use native.Mathlib.Omega.{arith}
use Rattle.symbols.proofs.put_payload.Goals as goal

pub put_small-requires : goal.put_small-requires
put_small-requires c =
    let m = c.plan_lawful-plan.ensures in
    let r = plan_room c.args.token c.plan_lawful-plan.result c.args.payload.now (record { each = λ i. omega (arith, c.type_inv.payload i) }) m in
    (small_of c.in-Number.is, m.number_fits, omega (arith, r, c.requires.3))

pub put_blob-requires : goal.put_blob-requires
put_blob-requires c =
    let m = c.plan_lawful-plan.ensures in
    let r = plan_room c.args.token c.plan_lawful-plan.result c.args.payload.now (record { each = λ i. omega (arith, c.type_inv.payload i) }) m in
    (c.requires.0, blob_of c.in-HexDigits.is, m.payload_fits, omega (arith, r, c.requires.3))
