use Rattle.std.proofs.Common.{◌≡◌, ◌+◌, ◌<◌, IfSome, IfNone, subst}
use Rattle.data_model.specs.Trees.{Trees, bytes_in}
use Rattle.shelves.specs.Shelf.{shelf_trees}
use Rattle.trees.proofs.Nests.{same-picked}
use Rattle.shelves.proofs.shelf.Shelf.without_texts.Goals as goal

pub returns-clause-left : goal.returns-clause-left
returns-clause-left c =
    let P : Trees → Type 0 = λ us. IfSome c.without_texts.result (λ left. left + bytes_in us ≡ c.args.bytes) in
    subst P (same-picked c.args.id c.home-home.result.now.trees (shelf_trees c.args.self.now) c.facts-2.ensures.distinct c.facts.ensures.distinct c.requires c.home-home.ensures) c.without_texts.ensures.left

pub returns-clause-more : goal.returns-clause-more
returns-clause-more c =
    let P : Trees → Type 0 = λ us. IfNone c.without_texts.result (c.args.bytes < bytes_in us) in
    subst P (same-picked c.args.id c.home-home.result.now.trees (shelf_trees c.args.self.now) c.facts-2.ensures.distinct c.facts.ensures.distinct c.requires c.home-home.ensures) c.without_texts.ensures.more
