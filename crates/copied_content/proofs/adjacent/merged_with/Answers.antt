use Rattle.std.proofs.Common.{◌≡◌, ◌∷◌, ◌++◌, [], IfOk, ap, sym, ◌∙◌, subst}
use Rattle.data_model.specs.Tree.{all_of}
use Rattle.data_model.specs.Trees.{Trees}
use Rattle.copied_content.specs.Merging.{and_merged}
use Rattle.copied_content.proofs.Merging.{joins, stays_apart}
use Rattle.copied_content.proofs.adjacent.merged_with.Goals as goal

pub returns-then-are_texts : goal.returns-then-are_texts
returns-then-are_texts c =
    let xs = c.pop.new.self.items in
    let P : Trees → Type 0 = λ us. IfOk c.and_last-then-are_texts.result (λ more. all_of more.items ≡ us) in
    let same = ap (λ ys. and_merged (all_of ys) c.args.tree) c.in-Some.ensures.items ∙ joins xs c.in-Some.last c.args.tree (sym c.are_texts.ensures ∙ c.if-are_texts.true) ∙ ap (λ l. all_of (xs ++ l ∷ [])) (sym c.in_ok-with_text_of-in-Some.ensures) in
    subst P (sym same) c.and_last-then-are_texts.ensures

pub returns-in_ok-push-in-Some : goal.returns-in_ok-push-in-Some
returns-in_ok-push-in-Some c =
    let xs = c.pop.new.self.items in
    let P : Trees → Type 0 = λ us. IfOk c.and_last-in-Some.result (λ more. all_of more.items ≡ us) in
    let same = ap (λ ys. and_merged (all_of ys) c.args.tree) c.in-Some.ensures.items ∙ stays_apart xs c.in-Some.last c.args.tree (sym c.are_texts.ensures ∙ c.if-are_texts.false) ∙ ap (λ ys. all_of (ys ++ c.args.tree ∷ [])) (sym c.in_ok-push-in-Some.ensures.items) in
    subst P (sym same) c.and_last-in-Some.ensures
