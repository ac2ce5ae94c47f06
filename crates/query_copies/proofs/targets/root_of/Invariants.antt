use Rattle.std.proofs.Common.{◌≡◌, IsSome}
use Rattle.data_model.specs.Trees.{find}
use Rattle.data_model.specs.Walks.{depth_of, root_of}
use Rattle.shelves.specs.Shelf.{shelf_trees}
use Rattle.query_copies.proofs.targets.root_of.Given as goal

abbrev pub invariant-loop-parent : goal.invariant-loop-parent
invariant-loop-parent l = IsSome (find l.root (shelf_trees l.shelf)) × (root_of l.root (shelf_trees l.shelf) ≡ root_of l.fn.node (shelf_trees l.shelf))

abbrev pub decreases-loop-parent : goal.decreases-loop-parent
decreases-loop-parent l = depth_of l.root (shelf_trees l.shelf)
