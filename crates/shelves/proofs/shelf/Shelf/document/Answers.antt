use Rattle.std.proofs.Common.{IfSome, subst}
use Rattle.trees.specs.Forest.{IsDocument}
use Rattle.shelves.specs.Shelf.{ShelfTerm, shelf_trees}
use Rattle.shelves.proofs.Shelves.{documents-both}
use Rattle.shelves.proofs.shelf.Shelf.document.Goals as goal

pub returns-clause-stands : goal.returns-clause-stands
returns-clause-stands c =
    let P : ShelfTerm → Type 0 = λ s. IfSome c.document.result (IsDocument (shelf_trees s)) in
    subst P c.self.view_is (documents-both c.document.result c.self.inside.lent.now.trees c.self.inside.own.trees c.document.ensures.stands)
