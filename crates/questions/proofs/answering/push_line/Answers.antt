-- A line feed and a text are one piece.
use Rattle.std.proofs.Common.{◌≡◌, ◌∷◌, [], ◌∙◌, ap, rules}
use Rattle.shelves.specs.Shelf.{shelf_trees}
use Rattle.values.specs.Limited.{LimitedTerm, added}
use Rattle.values.specs.Printing.{item_text}
use Rattle.values.proofs.Limits.{added-twice}
use Rattle.questions.proofs.answering.push_line.Goals as goal

pub returns : goal.returns
returns c =
    let text = item_text (shelf_trees c.args.shelf.now) c.args.item.now in
    let whole : added c.push.new.self text ≡ added c.args.lines.now (10 ∷ text) =
    ap (λ (l : LimitedTerm). added l text) c.in_ok-push.ensures.pushed ∙ added-twice c.args.lines.now (10 ∷ []) text in
    rw (← whole) (search rules)
