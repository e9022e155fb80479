-- `token::entries::table` meets its contract: both tests are computed over the 256 entries of the source. Assumes nothing.
use Rattle.token.proofs.Rule.{listed}
use Rattle.token.specs.Entries.{class_in, shape_in}
use Rattle.token.specs.Tokens.{class_of, shape_of}
use mathlib.Core.Path.{refl}
use Rattle.token.proofs.entries.table.Goals as goal

pub returns : goal.returns
unfolding class_in shape_in class_of shape_of
returns c = listed _ refl refl
