use Rattle.std.proofs.Common.{◌≡◌, ◌∙◌, Ok, suc, drop, ap, sym, rules, add-one}
use Rattle.shelves.specs.Shelf.{shelf_trees}
use Rattle.evaluation.proofs.Each.{drop_all, drop_item}
use Rattle.query_calls.specs.Totals.{and_item, total_of}
use Rattle.query_calls.proofs.Totals.{first_added}
use Rattle.query_calls.proofs.sums.total_of.Goals as goal

pub loop-item-preserved : goal.loop-item-preserved
loop-item-preserved c =
    let is : and_item (shelf_trees c.args.shelf.now) c.loop-item.total c.item-item.result ≡ Ok c.in_ok-total.total = search rules in
    rw add-one
    (sym (first_added (shelf_trees c.args.shelf.now) c.item-item.result (drop (suc c.loop-item.item-index) c.args.items.now) (drop c.loop-item.item-index c.args.items.now) c.loop-item.total c.in_ok-total.total (drop_item c.args.items.now c.loop-item.item-index c.item-item.result c.loop-item-test.true c.item-item.is) is)
    ∙ c.loop-item.invariant)

pub returns : goal.returns
returns c =
    sym c.loop-item.invariant
    ∙ ap (λ ys. total_of (shelf_trees c.args.shelf.now) ys c.loop-item.total) (drop_all c.args.items.now c.loop-item.item-index c.loop-item-test.false)
