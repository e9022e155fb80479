-- `symbols::put_blob` meets its contract. Assumes nothing.
use Rattle.std.proofs.Common.{rules}
use Prim.Native.Nat.{ℕ, ◌<◌}
use Rattle.symbols.proofs.Texts.{blob_loaded}
use lib.ListN.{length}
use mathlib.Core.List.{List, []}
use Rattle.base64_text.specs.Letters.{Alphabet}
use Rattle.plan.specs.Plans.{units_by, PayloadFits}
use Rattle.units.specs.Units.{Loaded}
use native.Mathlib.Omega.{arith}
use Rattle.symbols.proofs.put_blob.Goals as goal

pub units-requires : goal.units-requires
units-requires c = (c.requires.2, (blob_loaded c.args.plan _ c.requires.1).begins)

pub put_each-requires-clause-called : goal.put_each-requires-clause-called
put_each-requires-clause-called c =
    λ k h.
    let l : Loaded c.args.plan c.new-small.result = blob_loaded c.args.plan c.new-small.result c.requires.1 in
    let n : k < length (units_by c.args.plan c.args.payload.now) = omega (arith, h, c.units.ensures) in
    let a : Alphabet c.args.alphabet.now = c.requires.0 in
    let p : PayloadFits c.args.plan c.args.payload.now = c.requires.2 in
    search (rules, l, n, a, p)

pub returns : goal.returns
returns c = c.put_each.ensures _ (record { long = c.units.ensures; each = λ k x h e. search rules })
