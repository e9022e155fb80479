-- `form_items::put_texted` meets its contract. Assumes nothing.
use Prim.Native.Nat.{◌*◌}
use Rattle.form.specs.Canonical.{with_units}
use Rattle.form_items.proofs.Bytes.{byte_then, byte_fits}
use Rattle.sequences.specs.Lists.{part}
use native.Mathlib.Omega.{arith}
use Rattle.form_items.proofs.put_texted.Goals as goal

pub put_text-requires : goal.put_text-requires
put_text-requires c = let a = c.args in let p = c.requires in (p.0, p.1, omega (arith, p.2), byte_fits a.out.now _ a.at a.token (with_units (part a.doc.now a.place (2 * a.units))) c.put.ensures p.3)

pub returns : goal.returns
returns c = byte_then c.put.ensures c.put_text.ensures
