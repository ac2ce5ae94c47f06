use Rattle.std.proofs.Common.{◌≡◌, ◌++◌, filter, drop}
use Rattle.data_model.specs.Trees.{find}
use Rattle.shelves.specs.Shelf.{shelf_trees}
use Rattle.query_meaning.specs.Paths.{passes_at}
use Rattle.query_steps.proofs.node_tests.passing.Given as goal

abbrev pub invariant-loop-node : goal.invariant-loop-node
invariant-loop-node l = record {
  found :
      l.passing.items ++ filter (λ i. passes_at l.axis l.test (find i (shelf_trees l.shelf))) (drop l.node-index l.nodes) ≡ filter (λ i. passes_at l.axis l.test (find i (shelf_trees l.shelf))) l.nodes;
  over : l.cursor ≡ shelf_trees l.shelf;
}
