use Rattle.query_steps.specs.Sets.{is_as_wanted}
use Rattle.query_steps.proofs.Turns.{filter-turn, filter-end}
use Rattle.query_steps.proofs.sets.chosen.Goals as goal

pub loop-node-preserved : goal.loop-node-preserved
loop-node-preserved c = filter-turn (is_as_wanted c.args.wanted c.args.set.now) _ _ c.node-item.result _ _ c.loop-node-test.true c.node-item.is c.loop-node.invariant c.in_ok-add_wanted.ensures

pub returns : goal.returns
returns c = filter-end (is_as_wanted c.args.wanted c.args.set.now) _ _ _ c.loop-node-test.false c.loop-node.invariant
