-- `form_bytes::put_value` meets its contract: each arm by the shapes that it stands for. Assumes nothing.
use Rattle.form_bytes.proofs.Values.{of_text, of_blob, of_others, value_fits, value_fits_bare, value_laid}
use native.Mathlib.Omega.{arith}
use Rattle.form_bytes.proofs.put_value.Goals as goal

pub put_counted-requires : goal.put_counted-requires
put_counted-requires c =
    let e = of_text c.args.shape _ _ c.args.size c.requires.0 c.in-Text.in-Text-own.keys1 in
    (c.requires.0, c.requires.1, c.requires.2, omega arith, value_fits _ e c.requires.3)

pub put_counted-requires-in-Blob : goal.put_counted-requires-in-Blob
put_counted-requires-in-Blob c =
    let e = of_blob c.args.shape _ _ c.args.size c.requires.0 c.in-Blob.in-Blob-own.keys2 in
    (c.requires.0, c.requires.1, c.requires.2, omega arith, value_fits _ e c.requires.3)

pub put_part-requires : goal.put_part-requires
put_part-requires c =
    let e = of_others c.args.shape _ _ c.args.size c.requires.0 c.in_default.not-Text c.in_default.not-Blob c.in_default.not-CodePage c.in_default.not-Decimal in
    (c.requires.0, c.requires.1, omega (arith, c.requires.2), value_fits_bare _ e c.requires.3)

pub returns-in-Text : goal.returns-in-Text
returns-in-Text c =
    let e = of_text c.args.shape _ _ c.args.size c.requires.0 c.in-Text.in-Text-own.keys1 in
    value_laid _ e c.put_counted.ensures

pub returns-in-Blob : goal.returns-in-Blob
returns-in-Blob c =
    let e = of_blob c.args.shape _ _ c.args.size c.requires.0 c.in-Blob.in-Blob-own.keys2 in
    value_laid _ e c.put_counted-in-Blob.ensures

pub returns-in_default : goal.returns-in_default
returns-in_default c =
    let e = of_others c.args.shape _ _ c.args.size c.requires.0 c.in_default.not-Text c.in_default.not-Blob c.in_default.not-CodePage c.in_default.not-Decimal in
    value_laid _ e c.put_part.ensures
