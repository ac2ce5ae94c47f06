-- The values so far, and then those of the items that are left, are all of them.
use Rattle.std.proofs.Common.{◌≡◌, drop}
use Rattle.shelves.specs.Shelf.{shelf_trees}
use Rattle.values.specs.Atoms.{atomized}
use Rattle.values.proofs.Atomized.{after}
use Rattle.values.proofs.atom.atomize.Given as goal

abbrev pub invariant-loop-item : goal.invariant-loop-item
invariant-loop-item l = after l.atoms.items (atomized (shelf_trees l.shelf) (drop l.item-index l.items)) ≡ atomized (shelf_trees l.shelf) l.items
