use Rattle.std.proofs.Common.{◌≡◌, ◌≤◌, drop, length}
use Rattle.data_model.specs.Walks.{held}
use Rattle.query_steps.proofs.siblings.place_from_end.Given as goal

abbrev pub invariant-loop-at : goal.invariant-loop-at
invariant-loop-at l = (l.at ≤ length l.nodes) × (held l.node (drop l.at l.nodes) ≡ 0)

abbrev pub decreases-loop-at : goal.decreases-loop-at
decreases-loop-at l = l.at
