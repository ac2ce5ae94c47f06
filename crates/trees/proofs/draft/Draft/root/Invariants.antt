use Rattle.std.proofs.Common.{◌≡◌, IsSome}
use Rattle.data_model.specs.Trees.{find}
use Rattle.data_model.specs.Walks.{depth_of, root_of}
use Rattle.trees.proofs.draft.Draft.root.Given as goal

abbrev pub invariant-loop-parent : goal.invariant-loop-parent
invariant-loop-parent l = IsSome (find l.at l.self.after) × (root_of l.at l.self.after ≡ root_of l.fn.id l.self.after)

abbrev pub decreases-loop-parent : goal.decreases-loop-parent
decreases-loop-parent l = depth_of l.at l.self.after
