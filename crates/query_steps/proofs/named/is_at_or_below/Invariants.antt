use Rattle.std.proofs.Common.{◌≡◌, ◌||◌, eqb, IsSome}
use Rattle.data_model.specs.Axes.{is_ancestor}
use Rattle.data_model.specs.Trees.{find}
use Rattle.data_model.specs.Walks.{depth_of}
use Rattle.shelves.specs.Shelf.{shelf_trees}
use Rattle.query_steps.proofs.named.is_at_or_below.Given as goal

abbrev pub invariant-loop-root : goal.invariant-loop-root
invariant-loop-root l = record {
  stands : IsSome (find l.at (shelf_trees l.shelf));
  same : (eqb l.at l.root || is_ancestor (shelf_trees l.shelf) l.at l.root) ≡ (eqb l.fn.node l.root || is_ancestor (shelf_trees l.shelf) l.fn.node l.root);
}

abbrev pub decreases-loop-root : goal.decreases-loop-root
decreases-loop-root l = depth_of l.at (shelf_trees l.shelf)
