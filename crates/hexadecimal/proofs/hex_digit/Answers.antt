-- `hexadecimal::hex_digit` meets its contract. The digit without a branch is the digit by cases. Assumes nothing.
use Rattle.hexadecimal.proofs.Hex.{hex_digit_is}
use Rattle.hexadecimal.proofs.hex_digit.Goals as goal

pub returns : goal.returns
returns c = hex_digit_is _ c.requires
