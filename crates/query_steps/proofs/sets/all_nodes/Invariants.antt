use Rattle.std.proofs.Common.{◌≡◌, ◌++◌, drop}
use Rattle.query_meaning.specs.Operators.{nodes}
use Rattle.query_steps.proofs.sets.all_nodes.Given as goal

abbrev pub invariant-loop-item : goal.invariant-loop-item
invariant-loop-item l = nodes l.nodes.items ++ drop l.item-index l.items ≡ l.items
