use Rattle.std.proofs.Common.{◌≡◌, ◌∙◌, ◌+◌, [], ◌∷◌, ◌++◌, suc, map, drop, ap, sym, rules, add-one}
use Rattle.std.proofs.lemmas.List.{map-append}
use Rattle.shelves.specs.Shelf.{shelf_trees}
use Rattle.values.specs.LentTexts.{IsLentText}
use Rattle.values.specs.Work.{text_work}
use Rattle.evaluation.proofs.Each.{drop_all, drop_item}
use Rattle.query_strings.specs.Texts.{text_at}
use Rattle.query_calls.specs.Joined.{texts_of}
use Rattle.query_calls.proofs.JoinedTexts.{and_text}
use Rattle.query_calls.proofs.joined.lent_texts.Goals as goal

pub loop-item-preserved : goal.loop-item-preserved
loop-item-preserved c =
    let lent : IsLentText (shelf_trees c.args.shelf.now) c.item-item.result c.in-Some.lent = search rules in
    let total : c.in-Some-and_value.more ≡ c.loop-item.work + (c.in-Some.lent.nodes + text_work c.in-Some.lent.text.now) = search rules in
    let pushed : map text_at c.push.new.self.items ≡ map text_at c.loop-item.texts.items ++ c.in-Some.lent.text.now ∷ [] = search (rules, map-append) in
    rw (add-one, pushed)
    (sym (and_text (shelf_trees c.args.shelf.now) c.item-item.result (drop (suc c.loop-item.item-index) c.args.items.now) (drop c.loop-item.item-index c.args.items.now) c.in-Some.lent (map text_at c.loop-item.texts.items) c.loop-item.work c.in-Some-and_value.more (drop_item c.args.items.now c.loop-item.item-index c.item-item.result c.loop-item-test.true c.item-item.is) lent total)
    ∙ c.loop-item.invariant)

pub returns : goal.returns
returns c =
    sym c.loop-item.invariant
    ∙ ap (λ ys. texts_of (shelf_trees c.args.shelf.now) ys (map text_at c.loop-item.texts.items) c.loop-item.work) (drop_all c.args.items.now c.loop-item.item-index c.loop-item-test.false)
