-- `units::load` meets its contract: each arm by the law of its plan. Assumes nothing.
use Rattle.units.proofs.UnitAt.{loads_other, number_on, loads_number, loads_boolean}
use Rattle.units.proofs.load.Goals as goal

pub render-requires : goal.render-requires
render-requires c = number_on c.in-Number.is c.requires

pub returns-in-Number : goal.returns-in-Number
returns-in-Number c = loads_number c.in-Number.is c.render.ensures

pub returns-in-Boolean : goal.returns-in-Boolean
returns-in-Boolean c = loads_boolean c.in-Boolean.is c.render_truth.ensures

pub returns-in_default : goal.returns-in_default
returns-in_default c = loads_other c.args.plan _ c.in_default.not-Number c.in_default.not-Boolean
