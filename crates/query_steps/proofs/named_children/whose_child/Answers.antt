use Rattle.std.proofs.Common.{◌∙◌, sym, ap, eqb}
use Rattle.std.specs.List.{list_any}
use Rattle.shelves.specs.Shelf.{shelf_trees}
use Rattle.query_steps.proofs.Ancestors.{up}
use Rattle.query_steps.proofs.ByParent.{attribute-is-none, no-parent, other-is-child, viewed-none, viewed-parent}
use Rattle.query_steps.proofs.named_children.whose_child.Goals as goal

pub returns-in_default : goal.returns-in_default
returns-in_default c = no-parent (shelf_trees c.args.shelf.now) c.facts.ensures.distinct c.args.node (viewed-none _ c.in_default.ensures)

pub returns-in_default-parent : goal.returns-in_default-parent
returns-in_default-parent c = no-parent (shelf_trees c.args.shelf.now) c.facts.ensures.distinct c.args.node (viewed-parent c.in-Some.view _ c.in-Some.ensures ∙ c.in_default-parent.is)

pub attributes-requires : goal.attributes-requires
attributes-requires c =
    (up (shelf_trees c.args.shelf.now) c.facts.ensures.distinct c.args.node c.in-Some-parent.parent (viewed-parent c.in-Some.view _ c.in-Some.ensures ∙ c.in-Some-parent.is)).1

pub returns-then-contains : goal.returns-then-contains
returns-then-contains c =
    attribute-is-none (shelf_trees c.args.shelf.now) c.facts.ensures.distinct c.args.node c.in-Some-parent.parent (viewed-parent c.in-Some.view _ c.in-Some.ensures ∙ c.in-Some-parent.is)
    (sym (c.contains.ensures.value ∙ ap (list_any (λ j. eqb j c.args.node)) c.attributes.ensures) ∙ c.if-contains.true)

pub returns : goal.returns
returns c =
    other-is-child (shelf_trees c.args.shelf.now) c.facts.ensures.distinct c.args.node c.in-Some-parent.parent (viewed-parent c.in-Some.view _ c.in-Some.ensures ∙ c.in-Some-parent.is)
    (sym (c.contains.ensures.value ∙ ap (list_any (λ j. eqb j c.args.node)) c.attributes.ensures) ∙ c.if-contains.false)
