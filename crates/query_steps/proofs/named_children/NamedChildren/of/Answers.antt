use Rattle.std.proofs.Common.{◌∙◌, ap, sym, subst, length, IsSome}
use Rattle.data_model.specs.Axes.{on_axis}
use Rattle.data_model.specs.Trees.{find}
use Rattle.data_model.specs.declared.axis.Axis.TheVariants.{Child}
use Rattle.node_table.proofs.Axes.{on-children}
use Rattle.shelves.specs.Shelf.{ShelfTerm, shelf_trees}
use Rattle.query_steps.proofs.ByParent.{viewed-children, viewed-lent}
use Rattle.query_steps.proofs.named_children.NamedChildren.of.Goals as goal

pub returns-clause-nodes : goal.returns-clause-nodes
returns-clause-nodes c =
    let P : ShelfTerm → Type 0 = λ s. IsSome (find c.args.node s.lent.trees) in
    let lent = viewed-lent c.shelf-shelf.result.now c.args.node c.in-Some.view (sym c.is_own.ensures ∙ c.if-is_own.false) c.in-Some.ensures in
    λ test listed. c.list.ensures ∙ listed.each c.args.node (subst P c.shelf-shelf.ensures lent)

pub returns-clause-looked : goal.returns-clause-looked
returns-clause-looked c =
    ap length (viewed-children c.in-Some.view _ c.in-Some.ensures ∙ sym (on-children (shelf_trees c.shelf-shelf.result.now) c.facts.ensures.distinct c.args.node))
    ∙ ap (λ (s : ShelfTerm). length (on_axis Child (shelf_trees s) c.args.node)) c.shelf-shelf.ensures
