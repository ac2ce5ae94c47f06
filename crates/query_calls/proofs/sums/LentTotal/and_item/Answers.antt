use Rattle.shelves.specs.Shelf.{shelf_trees}
use Rattle.query_calls.proofs.Totals.{node_added}
use Rattle.query_calls.proofs.sums.LentTotal.and_item.Goals as goal

pub returns-in_ok-text-in-Node : goal.returns-in_ok-text-in-Node
returns-in_ok-text-in-Node c =
    let plain = c.in_ok-plain-in-Node in
    node_added (shelf_trees c.args.shelf.now) c.args.item.now c.args.self c.in-Node.node plain.plain.kind plain.plain.text.now c.in_ok-text-in-Node.text.now plain.plain.size c.in-Node.is plain.ensures.kind plain.ensures.text plain.ensures.size c.in_ok-text-in-Node.ensures c.and_untyped.result c.and_untyped.ensures
