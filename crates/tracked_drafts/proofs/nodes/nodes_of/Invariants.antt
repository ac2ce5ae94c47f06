use Rattle.std.proofs.Common.{◌-◌}
use Rattle.data_model.specs.Trees.{size}
use Rattle.update_meaning.specs.Changed.{rooted_at, chosen}
use Rattle.tracked_drafts.specs.Walked.{Walked}
use Rattle.tracked_drafts.proofs.nodes.nodes_of.Given as goal

abbrev pub invariant-loop-at : goal.invariant-loop-at
invariant-loop-at l = Walked l.forest.trees (chosen (rooted_at l.roots) l.forest.trees) l.nodes.keys l.at

abbrev pub decreases-loop-at : goal.decreases-loop-at
decreases-loop-at l = size l.forest.trees - l.at
