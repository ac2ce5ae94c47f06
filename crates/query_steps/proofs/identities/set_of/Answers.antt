use Rattle.query_steps.proofs.Members.{members-turn, members-end}
use Rattle.query_steps.proofs.identities.set_of.Goals as goal

pub loop-node-preserved : goal.loop-node-preserved
loop-node-preserved c = members-turn _ _ c.node-item.result _ _ c.loop-node-test.true c.node-item.is c.loop-node.invariant c.in_ok-add.ensures

pub returns : goal.returns
returns c = members-end _ _ _ c.loop-node-test.false c.loop-node.invariant
