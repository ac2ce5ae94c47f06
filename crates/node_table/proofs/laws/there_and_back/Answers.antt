use Rattle.node_table.proofs.Plans.{over-back, plan-back, places-most, places-back}
use Rattle.node_table.proofs.laws.there_and_back.Goals as goal

pub returns-clause-rows : goal.returns-clause-rows
returns-clause-rows c = over-back

pub returns-clause-plan : goal.returns-clause-plan
returns-clause-plan c = plan-back

pub returns-clause-few : goal.returns-clause-few
returns-clause-few c = places-most

pub returns-clause-few_back : goal.returns-clause-few_back
returns-clause-few_back c = places-back
