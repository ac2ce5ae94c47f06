use Rattle.node_plans.proofs.Plans.{nothing-planned}
use Rattle.node_plans.proofs.plan.Plan.new.Goals as goal

pub returns : goal.returns
returns c = nothing-planned (record { rows = c.new.result; gone = c.new-2.result }) c.new.ensures c.new-2.ensures.empty
