use Rattle.std.proofs.Common.{◌≡◌, drop}
use Rattle.shelves.specs.Shelf.{shelf_trees}
use Rattle.query_calls.specs.Totals.{no_total, total_of}
use Rattle.query_calls.proofs.sums.total_of.Given as goal

abbrev pub invariant-loop-item : goal.invariant-loop-item
invariant-loop-item l = total_of (shelf_trees l.fn.shelf) (drop l.item-index l.fn.items) l.total ≡ total_of (shelf_trees l.fn.shelf) l.fn.items no_total
