-- Line after line.
use Rattle.std.proofs.Common.{rules, ◌≡◌, ◌++◌, ◌∙◌, ap, sym, take, take_all, append-nil, arith}
use Rattle.shelves.specs.Shelf.{shelf_trees}
use Rattle.values.specs.Limited.{LimitedTerm, added}
use Rattle.values.specs.Printing.{item_text}
use Rattle.questions.proofs.Lines.{lines_of, one-more, too-long, all-lines}
use Rattle.questions.proofs.answering.print_lines.Goals as goal

pub loop-item-init : goal.loop-item-init
loop-item-init c =
    let text = item_text (shelf_trees c.args.shelf.now) c.args.first.now in
    c.in_ok-push_item.ensures ∙ ap (λ (l : LimitedTerm). added l text) c.new-lines.ensures ∙ ap (added _) (sym (append-nil text))

pub returns-then-is_too_long : goal.returns-then-is_too_long
returns-then-is_too_long c =
    too-long (item_text (shelf_trees c.args.shelf.now)) _ c.loop-item.lines (item_text (shelf_trees c.args.shelf.now) c.args.first.now) c.args.others.now c.loop-item.item-index c.loop-item.invariant (search rules)

pub loop-item-preserved : goal.loop-item-preserved
loop-item-preserved c =
    one-more (item_text (shelf_trees c.args.shelf.now)) _ c.loop-item.lines c.push_line.new.lines (item_text (shelf_trees c.args.shelf.now) c.args.first.now) c.args.others.now c.loop-item.item-index c.item-item.result c.loop-item-test.true c.item-item.is c.loop-item.invariant c.in_ok-push_line.ensures

pub returns : goal.returns
returns c =
    let text = item_text (shelf_trees c.args.shelf.now) in
    let first = text c.args.first.now in
    let all : take c.loop-item.item-index c.args.others.now ≡ c.args.others.now = take_all c.loop-item.item-index c.args.others.now (search (c.loop-item-test.false, arith)) in
    all-lines text _ c.loop-item.lines first c.args.others.now (c.loop-item.invariant ∙ ap (λ xs. added _ (first ++ lines_of text xs)) all)
