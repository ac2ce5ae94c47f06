use Rattle.shelves.specs.Shelf.{IsShelf, ShelfTerm}
use Rattle.std.proofs.Common.{subst}
use Rattle.shelves.proofs.Shelves.{shelf-facts}
use Rattle.shelves.proofs.shelf.Shelf.facts.Goals as goal

pub returns : goal.returns
returns c =
    let P : ShelfTerm → Type 0 = IsShelf in
    subst P c.self.view_is (shelf-facts c.self.inside.lent.now c.self.inside.own c.facts.ensures c.facts-2.ensures c.self.invariant)
