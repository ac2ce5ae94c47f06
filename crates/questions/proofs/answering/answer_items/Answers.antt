-- The lines are those of all items.
use Rattle.std.proofs.Common.{◌≡◌, ◌∷◌, ap, map, sym, ◌∙◌, rules}
use Rattle.std.specs.List.{join_with_byte}
use Rattle.shelves.specs.Shelf.{shelf_trees}
use Rattle.values.specs.Limited.{LimitedTerm}
use Rattle.values.specs.Printing.{item_text}
use Rattle.questions.specs.Answers.{printed}
use Rattle.questions.proofs.Printed.{whole, long}
use Rattle.questions.proofs.answering.answer_items.Goals as goal

pub returns-in-Some-into_text : goal.returns-in-Some-into_text
returns-in-Some-into_text c =
    let texts = map (item_text (shelf_trees c.args.shelf.now)) in
    let same : c.args.items.now ≡ c.in-Some.first.now ∷ c.in-Some.others.now = search (c.in-Some.ensures.cases, rules) in
    whole (join_with_byte 10 (texts (c.in-Some.first.now ∷ c.in-Some.others.now))) _ (c.in-Some-into_text.ensures ∙ ap (λ (l : LimitedTerm). l.text) c.in_ok-lines.ensures) ∙ ap (λ xs. printed (texts xs)) (sym same)

pub returns-in-None : goal.returns-in-None
returns-in-None c =
    let texts = map (item_text (shelf_trees c.args.shelf.now)) in
    let same : c.args.items.now ≡ c.in-Some.first.now ∷ c.in-Some.others.now = search (c.in-Some.ensures.cases, rules) in
    long (join_with_byte 10 (texts (c.in-Some.first.now ∷ c.in-Some.others.now))) (c.in-None.ensures ∙ ap (λ (l : LimitedTerm). l.text) c.in_ok-lines.ensures) ∙ ap (λ xs. printed (texts xs)) (sym same)
