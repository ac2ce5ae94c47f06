use Rattle.std.proofs.Common.{◌≡◌, take}
use Rattle.data_model.specs.Walks.{held}
use Rattle.query_steps.proofs.siblings.place_from_start.Given as goal

abbrev pub invariant-loop-at : goal.invariant-loop-at
invariant-loop-at l = held l.node (take l.at l.nodes) ≡ 0
