-- The items that are left come to what all of them come to.
use Rattle.std.proofs.Common.{◌≡◌, drop}
use Rattle.shelves.specs.Shelf.{shelf_trees}
use Rattle.read_items.specs.Pairs.{and_texts}
use Rattle.read_items.proofs.text_pairs.TextPairs.and_each.Given as goal

abbrev pub invariant-loop-item : goal.invariant-loop-item
invariant-loop-item l =
    and_texts (shelf_trees l.fn.shelf) l.fn.op l.fn.other.text.now (drop l.item-index l.fn.left) l.pairs ≡ and_texts (shelf_trees l.fn.shelf) l.fn.op l.fn.other.text.now l.fn.left l.fn.self
