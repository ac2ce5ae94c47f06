use Rattle.std.proofs.Common.{ap, ◌∙◌}
use Rattle.shelves.specs.Shelf.{shelf_trees}
use Rattle.query_elements.specs.Whole.{is_whole_item}
use Rattle.query_elements.proofs.Going.{whole_all, whole_not, whole_on}
use Rattle.query_elements.proofs.whole.are_whole.Goals as goal

pub loop-item-preserved : goal.loop-item-preserved
loop-item-preserved c =
    let x = c.item-item.result in
    let over = c.loop-item.invariant.over in
    record {
      left = whole_on (shelf_trees c.args.shelf.now) _ _ x c.is_whole.result c.loop-item-test.true c.item-item.is c.loop-item.invariant.left (c.is_whole.ensures.whole ∙ ap (λ ts. is_whole_item ts x) over) c.if-not-is_whole.false;
      over = c.is_whole.ensures.same ∙ over;
    }

pub returns-then-not-is_whole : goal.returns-then-not-is_whole
returns-then-not-is_whole c =
    let x = c.item-item.result in
    whole_not (shelf_trees c.args.shelf.now) _ _ x c.is_whole.result c.loop-item-test.true c.item-item.is c.loop-item.invariant.left (c.is_whole.ensures.whole ∙ ap (λ ts. is_whole_item ts x) c.loop-item.invariant.over) c.if-not-is_whole.true

pub returns : goal.returns
returns c = whole_all (shelf_trees c.args.shelf.now) _ _ c.loop-item-test.false c.loop-item.invariant.left
