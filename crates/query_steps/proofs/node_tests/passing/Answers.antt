use Rattle.std.proofs.Common.{◌∙◌, ℕ, Bool}
use Rattle.data_model.specs.Trees.{find}
use Rattle.shelves.specs.Shelf.{shelf_trees}
use Rattle.query_meaning.specs.Paths.{passes_at}
use Rattle.query_steps.proofs.Turns.{filter-turn, filter-end}
use Rattle.query_steps.proofs.node_tests.passing.Goals as goal

pub loop-node-preserved : goal.loop-node-preserved
loop-node-preserved c =
    let test : ℕ → Bool = λ i. passes_at c.args.axis c.args.test.now (find i (shelf_trees c.args.shelf.now)) in
    let over = c.loop-node.invariant.over in
    let added = rw over at c.in_ok-add_passing_by.ensures.added in
    record {
      found = filter-turn test _ _ c.node-item.result _ _ c.loop-node-test.true c.node-item.is c.loop-node.invariant.found added;
      over = c.in_ok-add_passing_by.ensures.same ∙ over;
    }

pub returns-clause-nodes : goal.returns-clause-nodes
returns-clause-nodes c =
    let test : ℕ → Bool = λ i. passes_at c.args.axis c.args.test.now (find i (shelf_trees c.args.shelf.now)) in
    filter-end test _ _ _ c.loop-node-test.false c.loop-node.invariant.found
