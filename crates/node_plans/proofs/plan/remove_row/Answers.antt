use Rattle.std.proofs.Common.{None}
use Rattle.node_table.proofs.Plans.{rows-changed}
use Rattle.node_plans.proofs.plan.remove_row.Goals as goal

pub returns-clause-removed : goal.returns-clause-removed
returns-clause-removed c = rows-changed c.args.rows.now c.remove.new.self c.args.id None c.remove.ensures.removed
