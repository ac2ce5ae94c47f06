use Rattle.std.proofs.Common.{ap, sym, ◌∙◌, length, nat_le}
use Rattle.data_model.specs.Limits.{most_listed}
use Rattle.shelves.specs.Shelf.{shelf_trees}
use Rattle.query_meaning.specs.Operators.{nodes}
use Rattle.copied_content.proofs.Merging.{both}
use Rattle.query_elements.specs.Whole.{are_whole}
use Rattle.query_elements.proofs.Going.{are_nodes}
use Rattle.query_elements.proofs.whole.whole_nodes.Goals as goal

pub returns-clause-nodes : goal.returns-clause-nodes
returns-clause-nodes c =
    let ts = shelf_trees c.shelf.result.now in
    let items = c.args.items.now in
    let all = both (nat_le (length items) most_listed) (are_whole ts items) (sym c.go_whole.ensures ∙ c.if-not-go_whole.false) in
    ap nodes c.in_ok-nodes_in.ensures ∙ are_nodes ts items all.1
