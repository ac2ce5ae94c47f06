use Rattle.std.proofs.Common.{◌≡◌, subst}
use Rattle.data_model.specs.Trees.{Trees, size}
use Rattle.shelves.specs.Shelf.{shelf_trees}
use Rattle.trees.proofs.Nests.{same-picked}
use Rattle.shelves.proofs.shelf.Shelf.size_of.Goals as goal

pub returns : goal.returns
returns c =
    let P : Trees → Type 0 = λ us. c.size_of.result ≡ size us in
    subst P (same-picked c.args.id c.home-home.result.now.trees (shelf_trees c.args.self.now) c.facts-2.ensures.distinct c.facts.ensures.distinct c.requires c.home-home.ensures) c.size_of.ensures
