use Rattle.query_elements.proofs.Going.{nodes_all, nodes_on}
use Rattle.query_elements.proofs.whole.nodes_in.Goals as goal

pub loop-item-preserved : goal.loop-item-preserved
loop-item-preserved c = nodes_on _ _ c.item-item.result _ _ c.loop-item-test.true c.item-item.is c.loop-item.invariant c.in_ok-add_node.ensures

pub returns : goal.returns
returns c = nodes_all _ _ _ c.loop-item-test.false c.loop-item.invariant
