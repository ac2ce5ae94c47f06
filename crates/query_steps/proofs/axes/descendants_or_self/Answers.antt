use Rattle.std.proofs.Common.{◌∙◌, ◌++◌, ℕ, Bool, List, [], ◌∷◌, ◌≡◌, filter, sym, ap, subst, IfOk}
use Rattle.data_model.specs.Trees.{find, size, attributes_of, children_of}
use Rattle.data_model.specs.declared.axis.Axis.TheVariants.{Descendant, DescendantOrSelf}
use Rattle.shelves.specs.Shelf.{shelf_trees}
use Rattle.query_meaning.specs.Paths.{passes_at, tested_nodes}
use Rattle.std.proofs.Common.{true, false}
use Rattle.std.proofs.lemmas.List.Elements.{filter-append}
use Rattle.query_steps.specs.Below.{levels_below}
use Rattle.query_steps.proofs.Descendants.{descendants-or-self-walked}
use Rattle.query_steps.proofs.ByName.{tested-or-self}
use Rattle.query_steps.proofs.axes.descendants_or_self.Goals as goal

pub returns-clause-nodes : goal.returns-clause-nodes
returns-clause-nodes c =
    let ts = shelf_trees c.args.shelf.now in
    let d = c.facts.ensures.distinct in
    let test : ℕ → Bool = λ j. passes_at DescendantOrSelf c.args.test.now (find j ts) in
    let own : List ℕ = c.args.node ∷ [] in
    let walked : List ℕ = levels_below (size ts) ts false (attributes_of c.args.node ts) ++ levels_below (size ts) ts true (children_of c.args.node ts) in
    c.in_ok-looked_at.ensures.nodes ∙ ap (λ xs. xs ++ filter test walked) (c.in_ok-add_passing.ensures ∙ ap (λ xs. xs ++ filter test own) c.new-nodes.ensures.items)
    ∙ sym (filter-append test own walked) ∙ ap (filter test) (sym (descendants-or-self-walked ts d c.args.node c.requires))

pub returns-in-Some-clause-nodes : goal.returns-in-Some-clause-nodes
returns-in-Some-clause-nodes c =
    let ts = shelf_trees c.args.shelf.now in
    let test : ℕ → Bool = λ j. passes_at DescendantOrSelf c.args.test.now (find j ts) in
    let own : List ℕ = filter test (c.args.node ∷ []) in
    let below : c.in-Some.below.nodes.items ≡ tested_nodes Descendant c.args.test.now c.args.node ts = rw c.in-Some.is at c.in_ok-below.ensures.nodes in
    subst (λ xs. IfOk c.with_below.result (λ l. l.nodes.items ≡ xs))
    (ap (λ xs. xs ++ c.in-Some.below.nodes.items) (c.in_ok-add_passing.ensures ∙ ap (λ xs. xs ++ own) c.new-nodes.ensures.items)
    ∙ ap (λ xs. own ++ xs) below ∙ tested-or-self c.args.test.now ts c.facts.ensures.distinct c.args.node c.requires)
    c.with_below.ensures.nodes
