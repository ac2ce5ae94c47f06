use Rattle.std.proofs.Common.{Some}
use Rattle.node_table.proofs.Plans.{rows-changed}
use Rattle.node_plans.proofs.plan.put.Goals as goal

pub returns-clause-put : goal.returns-clause-put
returns-clause-put c = rows-changed c.args.rows.now c.put.new.self c.args.id (Some c.args.row) c.put.ensures.put
