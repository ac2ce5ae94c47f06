-- The texts so far, and then those that are left, are all of them; the trees of a node's parts are smaller than its own.
use Rattle.std.proofs.Common.{◌≡◌, ◌+◌, ◌*◌, map, drop, sum_by}
use Rattle.shelves.specs.Shelf.{shelf_trees}
use Rattle.values.specs.Inside.{following}
use Rattle.values.specs.Limited.{added}
use Rattle.values.proofs.Parts.{text_in, size_in}
use Rattle.values.proofs.print.+printing.Given as goal

abbrev pub decreases-push_node : goal.decreases-push_node
decreases-push_node l = 2 * size_in (shelf_trees l.shelf.now) l.id

abbrev pub decreases-push_parts : goal.decreases-push_parts
decreases-push_parts l = 1 + 2 * sum_by (size_in (shelf_trees l.shelf.now)) l.ids.now

abbrev pub invariant-push_parts-loop-id : goal.invariant-push_parts-loop-id
invariant-push_parts-loop-id l = added l.out (following l.follows (map (text_in (shelf_trees l.shelf)) (drop l.id-index l.ids))) ≡ added l.initial.out (following l.follow (map (text_in (shelf_trees l.shelf)) l.ids))
