use Rattle.std.proofs.Common.{◌≡◌, [], drop, map}
use Rattle.shelves.specs.Shelf.{shelf_trees}
use Rattle.query_strings.specs.Texts.{text_at}
use Rattle.query_calls.specs.Joined.{texts_of}
use Rattle.query_calls.proofs.joined.lent_texts.Given as goal

abbrev pub invariant-loop-item : goal.invariant-loop-item
invariant-loop-item l =
    texts_of (shelf_trees l.fn.shelf) (drop l.item-index l.fn.items) (map text_at l.texts.items) l.work ≡ texts_of (shelf_trees l.fn.shelf) l.fn.items [] 0
