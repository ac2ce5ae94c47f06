use Rattle.std.proofs.Common.{◌∙◌, ap, filter}
use Rattle.data_model.specs.Axes.{is_in}
use Rattle.data_model.specs.Order.{identities}
use Rattle.shelves.specs.Shelf.{shelf_trees}
use Rattle.query_steps.proofs.Members.{in-order-gives}
use Rattle.query_steps.proofs.sets.in_order.Goals as goal

pub returns : goal.returns
returns c =
    in-order-gives c.args.nodes.items c.deref.result.now c.args.run.now c.of_nodes.result
    (c.deref.ensures.value ∙ c.in_ok-ordered.ensures ∙ ap (λ s. filter (λ i. is_in i c.args.nodes.items) (identities (shelf_trees s))) c.shelf.ensures) c.of_nodes.ensures.items
