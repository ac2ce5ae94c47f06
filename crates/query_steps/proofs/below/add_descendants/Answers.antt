use Rattle.std.proofs.Common.{ℕ, Bool, arith}
use Rattle.data_model.specs.Trees.{find}
use Rattle.shelves.specs.Shelf.{shelf_trees}
use Rattle.query_meaning.specs.Paths.{passes_at}
use Rattle.query_steps.proofs.Descendants.{descendants-counted}
use Rattle.query_steps.proofs.Turns.{both-found}
use Rattle.query_steps.proofs.below.add_descendants.Goals as goal

pub add_below-requires : goal.add_below-requires
add_below-requires c =
    let all = descendants-counted (shelf_trees c.args.shelf.now) c.facts.ensures.distinct c.args.node c.requires _ _ _ c.len-levels.ensures c.attributes-attributes.ensures c.children-children.ensures in
    omega (arith, all.0, all.1)

pub add_below-requires-2 : goal.add_below-requires-2
add_below-requires-2 c =
    let all = descendants-counted (shelf_trees c.args.shelf.now) c.facts.ensures.distinct c.args.node c.requires _ _ _ c.len-levels.ensures c.attributes-attributes.ensures c.children-children.ensures in
    omega (arith, all.0, all.1)

pub overflow_add-result : goal.overflow_add-result
overflow_add-result c =
    let all = descendants-counted (shelf_trees c.args.shelf.now) c.facts.ensures.distinct c.args.node c.requires _ _ _ c.len-levels.ensures c.attributes-attributes.ensures c.children-children.ensures in
    let one = c.in_ok-in_attributes.ensures.looked in
    omega (arith, all.0, all.1, one)

pub overflow_add-result-2 : goal.overflow_add-result-2
overflow_add-result-2 c =
    let all = descendants-counted (shelf_trees c.args.shelf.now) c.facts.ensures.distinct c.args.node c.requires _ _ _ c.len-levels.ensures c.attributes-attributes.ensures c.children-children.ensures in
    let one = c.in_ok-in_attributes.ensures.looked in
    let two = c.in_ok-in_children.ensures.looked in
    omega (arith, all.0, all.1, one, two)

pub returns-clause-nodes : goal.returns-clause-nodes
returns-clause-nodes c =
    let test : ℕ → Bool = λ j. passes_at c.args.axis c.args.test.now (find j (shelf_trees c.args.shelf.now)) in
    both-found test _ _ (shelf_trees c.args.shelf.now) _ _ _ _ _ _ _ c.len-levels.ensures c.attributes-attributes.ensures c.children-children.ensures c.in_ok-in_attributes.ensures.nodes c.in_ok-in_children.ensures.nodes

pub returns-clause-looked : goal.returns-clause-looked
returns-clause-looked c =
    let all = descendants-counted (shelf_trees c.args.shelf.now) c.facts.ensures.distinct c.args.node c.requires _ _ _ c.len-levels.ensures c.attributes-attributes.ensures c.children-children.ensures in
    let one = c.in_ok-in_attributes.ensures.looked in
    let two = c.in_ok-in_children.ensures.looked in
    omega (arith, all.0, one, two)
