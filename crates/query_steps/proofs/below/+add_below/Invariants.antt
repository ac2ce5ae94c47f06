use Rattle.std.proofs.Common.{◌≡◌, ◌+◌, ◌-◌, ◌++◌, true, false, filter, drop, sum_by}
use Rattle.data_model.specs.Trees.{find, attributes_of, children_of}
use Rattle.shelves.specs.Shelf.{shelf_trees}
use Rattle.query_meaning.specs.Paths.{passes_at}
use Rattle.query_steps.specs.Below.{counted_below, each_with, levels_below}
use Rattle.query_steps.proofs.below.+add_below.Given as goal

abbrev pub decreases-add_below : goal.decreases-add_below
decreases-add_below l = l.levels

abbrev pub invariant-loop-id : goal.invariant-loop-id
invariant-loop-id l =
    (l.nodes.items ++ filter (λ i. passes_at l.axis l.test (find i (shelf_trees l.shelf)))
    (each_with l.is_listed (λ i. levels_below (l.levels - 1) (shelf_trees l.shelf) false (attributes_of i (shelf_trees l.shelf)) ++ levels_below (l.levels - 1) (shelf_trees l.shelf) true (children_of i (shelf_trees l.shelf))) (drop l.id-index l.ids))
    ≡ l.fn.nodes.items ++ filter (λ i. passes_at l.axis l.test (find i (shelf_trees l.shelf))) (levels_below l.levels (shelf_trees l.shelf) l.is_listed l.ids))
    × (l.looked + sum_by (λ i. counted_below (l.levels - 1) (shelf_trees l.shelf) (attributes_of i (shelf_trees l.shelf)) + counted_below (l.levels - 1) (shelf_trees l.shelf) (children_of i (shelf_trees l.shelf))) (drop l.id-index l.ids)
    ≡ counted_below l.levels (shelf_trees l.shelf) l.ids)
    × (l.cursor ≡ shelf_trees l.shelf)
