use Rattle.std.proofs.Common.{◌≡◌, ◌≤◌, ◌+◌, ◌-◌, IsSome}
use Rattle.data_model.specs.Trees.{find}
use Rattle.data_model.specs.Walks.{depth_of}
use Rattle.apply.proofs.places.is_within.Given as goal

-- so many nodes were met on the way up
abbrev pub invariant-loop-above : goal.invariant-loop-above
invariant-loop-above l = (l.above ≤ 60) × IsSome (find l.at l.draft.draft.after) × (l.above + depth_of l.at l.draft.draft.after ≡ depth_of l.fn.id l.draft.draft.after)

abbrev pub decreases-loop-above : goal.decreases-loop-above
decreases-loop-above l = 60 - l.above
