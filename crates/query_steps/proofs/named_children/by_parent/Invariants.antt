use Rattle.std.proofs.Common.{◌≡◌, ℕ, ◌++◌, drop, filter}
use Rattle.data_model.specs.Axes.{is_child}
use Rattle.shelves.specs.Shelf.{shelf_trees}
use Rattle.query_steps.specs.ByParent.{listed_of}
use Rattle.query_steps.proofs.named_children.by_parent.Given as goal

abbrev pub invariant-loop-node : goal.invariant-loop-node
invariant-loop-node l = (p : ℕ) → listed_of p l.lists ++ filter (is_child (shelf_trees l.shelf) p) (drop l.node-index l.nodes) ≡ filter (is_child (shelf_trees l.shelf) p) l.nodes
