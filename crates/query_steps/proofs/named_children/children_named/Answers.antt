use Rattle.std.proofs.Common.{◌∙◌, ap, sym, subst}
use Rattle.query_grammar.specs.declared.ast.NodeTest.TheVariants as node_test
use Rattle.shelves.specs.Shelf.{ShelfTerm}
use Rattle.query_steps.specs.ByParent.{ListsChildren}
use Rattle.query_steps.proofs.ByParent.{lists-children}
use Rattle.query_steps.proofs.named_children.children_named.Goals as goal

pub returns : goal.returns
returns c =
    let P : ShelfTerm → Type 0 = λ t. ListsChildren c.args.test.now t c.in_ok-by_parent.field-0 in
    subst P c.shelf-shelf.ensures
    (lists-children c.shelf-shelf.result.now c.facts.ensures c.as_str.result.now c.in-Some.ids.now c.in-Some.ensures
    c.args.test.now (c.in-Name.is ∙ ap (λ n. node_test.Name n) (sym c.as_str.ensures)) c.in_ok-named.field-0.nodes.items c.in_ok-ordered.ordered.items c.deref.result.now c.in_ok-by_parent.field-0
    c.in_ok-named.ensures.nodes c.in_ok-ordered.ensures c.deref.ensures.value c.in_ok-by_parent.ensures)
