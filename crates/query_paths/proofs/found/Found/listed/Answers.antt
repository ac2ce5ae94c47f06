use Rattle.std.proofs.Common.{filter, length, subst, refl, ap, ◌∙◌}
use Rattle.data_model.specs.Axes.{is_in}
use Rattle.data_model.specs.Order.{identities}
use Rattle.data_model.proofs.Climbs.{AreDistinct}
use Rattle.query_meaning.specs.Operators.{nodes}
use Rattle.query_meaning.specs.Running.{trees_of}
use Rattle.shelves.specs.Shelf.{ShelfTerm, shelf_trees}
use Rattle.query_paths.proofs.Finds.{nodes_give, values_give, no_items, some_items}
use Rattle.query_paths.proofs.found.Found.listed.Goals as goal

pub returns-then-is_empty : goal.returns-then-is_empty
returns-then-is_empty c =
    let P : ShelfTerm → Type 0 = λ s. AreDistinct (shelf_trees s) in
    let long = c.self.inside.atoms.ok.0 ∙ ap (λ f. length f.atoms) c.self.view_is in
    let found =
    c.in_ok-ordered.ensures ∙ ap (λ s. filter (λ i. is_in i c.into_nodes-found.result.items) (identities (shelf_trees s))) c.shelf-then-is_empty.ensures
    ∙ ap (λ is. filter (λ i. is_in i is) (identities (trees_of c.args.run.now))) (c.into_nodes-found.ensures ∙ ap (λ f. f.nodes) c.self.view_is) in
    nodes_give c.args.mixed c.args.self.nodes c.args.self.atoms c.args.run.now c.in_ok-ordered.ordered.items c.deref.result.now (nodes c.deref.result.now) c.of_nodes.result
    (subst P c.shelf.ensures c.facts.ensures.distinct) (no_items c.args.self.atoms c.self.inside.atoms.len c.is_empty.result long c.is_empty.ensures c.if-is_empty.true) c.requires.few found c.deref.ensures.value refl c.of_nodes.ensures.items

pub returns : goal.returns
returns c =
    let no_nodes = no_items c.args.self.nodes (length c.self.inside.nodes) c.is_empty-2.result (ap (λ f. length f.nodes) c.self.view_is) c.is_empty-2.ensures c.if-not-is_empty.false in
    let some = some_items c.args.self.atoms c.self.inside.atoms.len c.is_empty.result (c.self.inside.atoms.ok.0 ∙ ap (λ f. length f.atoms) c.self.view_is) c.is_empty.ensures c.if-is_empty.false in
    values_give c.args.mixed c.args.self.nodes c.args.self.atoms c.deref-2.result.now c.args.run.now c.in_ok-of_atoms.field-0 c.into_sequence.result
    no_nodes some c.requires.few (c.deref-2.ensures.value ∙ ap (λ f. f.atoms) c.self.view_is) c.in_ok-of_atoms.ensures c.into_sequence.ensures
