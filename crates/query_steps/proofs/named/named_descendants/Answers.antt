use Rattle.std.proofs.Common.{◌∙◌, ap, sym}
use Rattle.query_grammar.specs.declared.ast.NodeTest.TheVariants as node_test
use Rattle.query_steps.proofs.ByName.{named-answer}
use Rattle.query_steps.proofs.named.named_descendants.Goals as goal

pub returns-clause-nodes : goal.returns-clause-nodes
returns-clause-nodes c =
    named-answer c.args.shelf.now c.facts.ensures c.args.root c.in-Some.ensures.lent c.as_str.result.now c.in-Some-elements_named.ids.now c.in-Some-elements_named.ensures
    c.args.test.now (c.in-Name.is ∙ ap (λ n. node_test.Name n) (sym c.as_str.ensures)) c.in_ok-nodes.nodes.items c.in-Some-2.wanted.items c.in_ok-nodes.ensures (rw c.in-Some-2.is at c.in_ok-wanted.ensures)
