use Rattle.std.proofs.Common.{◌≡◌, IfOk, subst}
use Rattle.data_model.specs.Trees.{Trees}
use Rattle.data_model.specs.Tree.{trees_of_tree}
use Rattle.shelves.specs.Shelf.{shelf_trees}
use Rattle.trees.proofs.Nests.{same-picked}
use Rattle.shelves.proofs.shelf.Shelf.tree.Goals as goal

pub returns : goal.returns
returns c =
    let P : Trees → Type 0 = λ us. IfOk c.tree.result (λ t. trees_of_tree t ≡ us) in
    subst P (same-picked c.args.id c.home-home.result.now.trees (shelf_trees c.args.self.now) c.facts-2.ensures.distinct c.facts.ensures.distinct c.requires c.home-home.ensures) c.tree.ensures
