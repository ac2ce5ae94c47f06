use Rattle.data_model.specs.Axes.{is_child}
use Rattle.shelves.specs.Shelf.{shelf_trees}
use Rattle.query_steps.specs.ByParent.{listed_of}
use Rattle.query_steps.proofs.Turns.{filter-turn, filter-end}
use Rattle.query_steps.proofs.named_children.by_parent.Goals as goal

pub loop-node-preserved : goal.loop-node-preserved
loop-node-preserved c = λ p.
    filter-turn (is_child (shelf_trees c.args.shelf.now) p) c.args.nodes.now c.loop-node.node-index c.node-item.result (listed_of p c.loop-node.lists) _ c.loop-node-test.true c.node-item.is (c.loop-node.invariant p) (c.in_ok-add.ensures p)

pub returns : goal.returns
returns c = λ p. filter-end (is_child (shelf_trees c.args.shelf.now) p) c.args.nodes.now c.loop-node.node-index (listed_of p c.loop-node.lists) c.loop-node-test.false (c.loop-node.invariant p)
