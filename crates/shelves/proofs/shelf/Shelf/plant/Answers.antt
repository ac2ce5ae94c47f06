use Rattle.std.proofs.Common.{◌≡◌, ◌∙◌, ap, max}
use Rattle.data_model.specs.Trees.{append}
use Rattle.data_model.specs.Changes.{ranked}
use Rattle.data_model.specs.Planted.{past}
use Rattle.data_model.specs.Tree.{trees_of_tree}
use Rattle.trees.specs.Forest.{ForestTerm}
use Rattle.node_table.proofs.Rows.{on_ok}
use Rattle.shelves.specs.Shelf.{ShelfTerm}
use Rattle.shelves.proofs.Shelves.{after-either, planted-distinct, planted-is, planted-after}
use Rattle.shelves.proofs.shelf.Shelf.plant.Goals as goal

pub plant-requires-clause-distinct : goal.plant-requires-clause-distinct
plant-requires-clause-distinct c = planted-distinct c.self.inside.lent.now c.self.inside.own c.args.self.now c.self.view_is c.args.tree.now c.facts.ensures c.requires.distinct c.requires.first c.requires.below c.requires.after c.requires.lent

pub invariant_of-self : goal.invariant_of-self
invariant_of-self c =
    let u = c.self.inside.lent.now in
    let v = c.self.inside.own in
    let w = c.plant.new.self in
    let us = trees_of_tree c.args.tree.now in
    after-either c.plant.result (λ _. w ≡ record v { trees = ranked c.args.tree.now.content.identity us v.trees; next = max v.next (past us) }) u v w c.self.invariant
    (λ _ e. planted-after u v c.args.self.now c.self.view_is c.args.tree.now c.facts.ensures c.requires.distinct c.requires.first c.requires.below c.requires.after c.requires.lent w c.self.invariant e) c.plant.ensures.planted c.plant.ensures.refused

pub returns-clause-planted : goal.returns-clause-planted
returns-clause-planted c =
    let u = c.self.inside.lent.now in
    let v = c.self.inside.own in
    let w = c.plant.new.self in
    let us = trees_of_tree c.args.tree.now in
    let whole : ForestTerm → ShelfTerm = λ x. record { lent = u; own = x } in
    let after : ShelfTerm → ShelfTerm = λ x. record x { own = record x.own { trees = append x.own.trees us } } in
    on_ok c.plant.result (w ≡ record v { trees = ranked c.args.tree.now.content.identity us v.trees; next = max v.next (past us) }) _
    (λ e. ap whole (planted-is u v c.args.self.now c.self.view_is c.args.tree.now c.facts.ensures c.requires.distinct c.requires.first c.requires.below c.requires.after c.requires.lent w e) ∙ ap after c.self.view_is) c.plant.ensures.planted
