-- `token::fixed_from` meets its contract: each arm by its key, the rest by what is left of the numbers. Assumes nothing.
use Rattle.token.proofs.Fixed.{not_fixed}
use Rattle.token.specs.Entries.{class_in, shape_in}
use Rattle.token.proofs.fixed_from.Goals as goal

pub returns-in-33 : goal.returns-in-33
unfolding class_in shape_in
returns-in-33 c = rw c.in-33.is

pub returns-in-34 : goal.returns-in-34
unfolding class_in shape_in
returns-in-34 c = rw c.in-34.is

pub returns-in-35 : goal.returns-in-35
unfolding class_in shape_in
returns-in-35 c = rw c.in-35.is

pub returns-in-36 : goal.returns-in-36
unfolding class_in shape_in
returns-in-36 c = rw c.in-36.is

pub returns-in-37 : goal.returns-in-37
unfolding class_in shape_in
returns-in-37 c = rw c.in-37.is

pub returns-in_default : goal.returns-in_default
unfolding class_in shape_in
returns-in_default c = let n = c.in_default.in_default-own.rest in not_fixed c.args.entry n.0.0.0.0.1 n.0.0.0.1 n.0.0.1 n.0.1 n.1
