use Rattle.std.proofs.Common.{◌≡◌, ◌+◌, ◌≤◌, ◌++◌, IsSome, length, reverse}
use Rattle.data_model.specs.Axes.{on_axis}
use Rattle.data_model.specs.Trees.{find}
use Rattle.data_model.specs.Walks.{depth_of}
use Rattle.data_model.specs.declared.axis.Axis.TheVariants.{Ancestor}
use Rattle.shelves.specs.Shelf.{shelf_trees}
use Rattle.query_meaning.specs.Paths.{tested_nodes}
use Rattle.query_steps.proofs.axes.ancestors.Given as goal

abbrev pub invariant-loop-parent : goal.invariant-loop-parent
invariant-loop-parent l = record {
  stands : IsSome (find l.at (shelf_trees l.shelf));
  found : tested_nodes Ancestor l.test l.at (shelf_trees l.shelf) ++ reverse l.nodes.items ≡ tested_nodes Ancestor l.test l.fn.node (shelf_trees l.shelf);
  few : l.looked_at + depth_of l.at (shelf_trees l.shelf) ≤ depth_of l.fn.node (shelf_trees l.shelf);
  looked : l.looked_at + length (on_axis Ancestor (shelf_trees l.shelf) l.at) ≡ length (on_axis Ancestor (shelf_trees l.shelf) l.fn.node);
}

abbrev pub decreases-loop-parent : goal.decreases-loop-parent
decreases-loop-parent l = depth_of l.at (shelf_trees l.shelf)
