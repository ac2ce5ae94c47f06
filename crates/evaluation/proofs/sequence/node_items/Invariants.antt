use Rattle.std.proofs.Common.{◌≡◌, ◌++◌, drop}
use Rattle.query_meaning.specs.Operators.{nodes}
use Rattle.evaluation.proofs.sequence.node_items.Given as goal

abbrev pub invariant-loop-id : goal.invariant-loop-id
invariant-loop-id l = l.items.items ++ nodes (drop l.id-index l.ids) ≡ nodes l.ids
