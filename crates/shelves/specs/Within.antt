-- How the fields of a shelf stand for its two forests.
use Rattle.shelves.specs.Shelf.{ShelfTerm, ComesAfter}
use Rattle.shelves.specs.declared.shelf.Shelf.TheInside.{Inside}

abbrev pub shelf_of : Inside → ShelfTerm
shelf_of a = record { lent = a.lent.now; own = a.own }

abbrev pub IsSoundShelf : Inside → Type 0
IsSoundShelf a = ComesAfter a.lent.now a.own
