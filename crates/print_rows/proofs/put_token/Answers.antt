-- `print_rows::put_token` meets its contract. Assumes nothing.
use Rattle.print_rows.proofs.Fields.{token_length, token_put}
use native.Mathlib.Omega.{arith}
use Rattle.print_rows.proofs.put_token.Goals as goal

pub put_word-requires : goal.put_word-requires
put_word-requires c =
    let p = c.put_hex-at.ensures in
    let l = token_length c.args.token in
    (omega (arith, p.place, l, c.requires.0), omega (arith, p.place, p.long, c.requires.1))

pub returns : goal.returns
returns c = token_put c.args.token c.put_hex-at.ensures c.put_word.ensures
