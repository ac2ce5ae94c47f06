use Rattle.std.proofs.Common.{◌∙◌, ap, sym}
use Rattle.data_model.specs.Trees.{size}
use Rattle.shelves.specs.Shelf.{ShelfTerm, shelf_trees}
use Rattle.data_model.proofs.Weights.{weigh-append}
use Rattle.shelves.proofs.shelf.Shelf.len.Goals as goal

pub returns : goal.returns
returns c = rw (c.len.ensures, c.len-2.ensures) (sym (weigh-append (λ _. 1) c.self.inside.lent.now.trees c.self.inside.own.trees) ∙ ap (λ (s : ShelfTerm). size (shelf_trees s)) c.self.view_is)
