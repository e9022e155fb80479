-- `text::part` meets its contract. Assumes nothing.
use Rattle.text.proofs.part.Goals as goal

pub returns-in-Own : goal.returns-in-Own
returns-in-Own c = rw c.in-Own.is c.front.ensures

pub returns-in-Made : goal.returns-in-Made
returns-in-Made c = rw c.in-Made.is c.front-in-Made.ensures
