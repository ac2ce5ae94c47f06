-- A step goes over the first of the items that are left; at the end none is.
use Rattle.std.proofs.Common.{◌≡◌, ◌∙◌, suc, drop, ap, sym, rules, add-one}
use Rattle.shelves.specs.Shelf.{shelf_trees}
use Rattle.values.specs.LentTexts.{IsLentText}
use Rattle.evaluation.proofs.Each.{drop_all, drop_item}
use Rattle.read_items.specs.Pairs.{and_text, and_texts}
use Rattle.read_items.proofs.TextPairs.{and_item}
use Rattle.read_items.proofs.text_pairs.TextPairs.and_each.Goals as goal

pub loop-item-preserved : goal.loop-item-preserved
loop-item-preserved c =
    let lent : IsLentText (shelf_trees c.args.shelf.now) c.item-item.result c.in_ok-text.text = search rules in
    let more : c.in_ok-pairs.pairs ≡ and_text c.args.op c.args.other.now.text.now c.in_ok-text.text.nodes c.in_ok-text.text.text.now c.loop-item.pairs = search rules in
    rw add-one
    (sym (and_item (shelf_trees c.args.shelf.now) c.args.op c.args.other.now.text.now c.item-item.result (drop (suc c.loop-item.item-index) c.args.left.now) c.in_ok-text.text c.loop-item.pairs c.in_ok-pairs.pairs lent more)
    ∙ ap (λ ys. and_texts (shelf_trees c.args.shelf.now) c.args.op c.args.other.now.text.now ys c.loop-item.pairs) (sym (drop_item c.args.left.now c.loop-item.item-index c.item-item.result c.loop-item-test.true c.item-item.is))
    ∙ c.loop-item.invariant)

pub returns : goal.returns
returns c =
    sym c.loop-item.invariant
    ∙ ap (λ ys. and_texts (shelf_trees c.args.shelf.now) c.args.op c.args.other.now.text.now ys c.loop-item.pairs) (drop_all c.args.left.now c.loop-item.item-index c.loop-item-test.false)
