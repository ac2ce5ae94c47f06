use Rattle.std.proofs.Common.{ap, ◌∙◌}
use Rattle.query_meaning.specs.Running.{Run}
use Rattle.query_operators.proofs.Values.{node_there}
use Rattle.query_operators.proofs.nodes.precedes.Goals as goal

pub before-holds-requires-clause-has_a : goal.before-holds-requires-clause-has_a
before-holds-requires-clause-has_a c = node_there _ _ _ _ _ c.args.run.now c.in_ok-a.ensures c.in-Some-Some.is-0 c.as_slice.ensures.items (c.shelf.ensures ∙ ap (λ (r : Run). r.shelf) c.order.ensures.same) c.requires.left

pub before-holds-requires-clause-has_b : goal.before-holds-requires-clause-has_b
before-holds-requires-clause-has_b c = node_there _ _ _ _ _ c.args.run.now c.in_ok-b.ensures c.in-Some-Some.is-1 c.as_slice-2.ensures.items (c.shelf.ensures ∙ ap (λ (r : Run). r.shelf) c.order.ensures.same) c.requires.right
