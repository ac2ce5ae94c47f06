use Rattle.std.proofs.Common.{◌≡◌, drop}
use Rattle.shelves.specs.Shelf.{shelf_trees}
use Rattle.query_elements.specs.Whole.{are_whole}
use Rattle.query_elements.proofs.whole.are_whole.Given as goal

-- what is left decides
abbrev pub invariant-loop-item : goal.invariant-loop-item
invariant-loop-item l = record {
  left : are_whole (shelf_trees l.shelf) (drop l.item-index l.items) ≡ are_whole (shelf_trees l.shelf) l.items;
  over : l.cursor ≡ shelf_trees l.shelf;
}
