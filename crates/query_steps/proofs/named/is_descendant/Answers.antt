use Rattle.std.proofs.Common.{◌≡◌, ◌∙◌, sym, ap, subst, Bool, eqb, IfSome}
use Rattle.std.specs.List.{list_any}
use Rattle.shelves.specs.Shelf.{shelf_trees}
use Rattle.query_steps.proofs.Ancestors.{up}
use Rattle.query_steps.proofs.ByName.{descendant-none, descendant-attribute, descendant-up}
use Rattle.query_steps.proofs.named.is_descendant.Goals as goal

pub returns-in_default : goal.returns-in_default
returns-in_default c = descendant-none (shelf_trees c.args.shelf.now) c.facts.ensures.distinct c.args.root c.args.node (sym c.parent.ensures ∙ c.in_default.is)

pub attributes-attributes-requires : goal.attributes-attributes-requires
attributes-attributes-requires c = (up (shelf_trees c.args.shelf.now) c.facts.ensures.distinct c.args.node c.in-Some.parent (sym c.parent.ensures ∙ c.in-Some.is)).1

pub returns-then-contains : goal.returns-then-contains
returns-then-contains c =
    descendant-attribute (shelf_trees c.args.shelf.now) c.facts.ensures.distinct c.args.root c.args.node c.in-Some.parent (sym c.parent.ensures ∙ c.in-Some.is)
    (sym (c.contains.ensures.value ∙ ap (list_any (λ j. eqb j c.args.node)) c.attributes-attributes.ensures) ∙ c.if-contains.true)

pub is_at_or_below-requires : goal.is_at_or_below-requires
is_at_or_below-requires c = (up (shelf_trees c.args.shelf.now) c.facts.ensures.distinct c.args.node c.in-Some.parent (sym c.parent.ensures ∙ c.in-Some.is)).1

pub returns : goal.returns
returns c =
    let P : Bool → Type 0 = λ b. IfSome c.is_at_or_below.result (λ is. is ≡ b) in
    subst P
    (descendant-up (shelf_trees c.args.shelf.now) c.facts.ensures.distinct c.args.root c.args.node c.in-Some.parent (sym c.parent.ensures ∙ c.in-Some.is)
    (sym (c.contains.ensures.value ∙ ap (list_any (λ j. eqb j c.args.node)) c.attributes-attributes.ensures) ∙ c.if-contains.false))
    c.is_at_or_below.ensures
