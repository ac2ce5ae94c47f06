use Rattle.node_table.specs.Plain.{IsPlainValue}
use Rattle.node_table.specs.declared.plain.PlainValue.{PlainValue}
use Rattle.shelves.specs.Shelf.{shelf_trees}
use Rattle.node_table.proofs.PlainValues.{if-some}
use Rattle.trees.proofs.Nests.{same-picked}
use Rattle.shelves.proofs.Shelves.{plain-same}
use Rattle.shelves.proofs.shelf.Shelf.plain_value.Goals as goal

pub returns : goal.returns
returns c =
    let ts = c.home-home.result.now.trees in
    let us = shelf_trees c.args.self.now in
    let picked = same-picked c.args.id ts us c.facts-2.ensures.distinct c.facts.ensures.distinct c.requires c.home-home.ensures in
    let P : PlainValue → Type 0 = IsPlainValue ts c.args.id in
    let Q : PlainValue → Type 0 = IsPlainValue us c.args.id in
    if-some P Q c.plain_value.result (λ v h. plain-same c.args.id ts us v c.home-home.ensures picked h) c.plain_value.ensures
