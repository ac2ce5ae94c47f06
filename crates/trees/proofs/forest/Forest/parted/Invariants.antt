use Rattle.std.proofs.Common.{◌≡◌, ◌≢◌, IsSome}
use Rattle.data_model.specs.Trees.{find}
use Rattle.data_model.specs.Order.{precedes}
use Rattle.data_model.specs.Walks.{depth_of}
use Rattle.trees.proofs.forest.Forest.parted.Given as goal

-- both are at one level, and which is first is as with the two nodes
abbrev pub invariant-loop-above_first : goal.invariant-loop-above_first
invariant-loop-above_first l =
    record {
      first : IsSome (find l.first l.self.trees);
      second : IsSome (find l.second l.self.trees);
      level : depth_of l.first l.self.trees ≡ depth_of l.second l.self.trees;
      apart : l.first ≢ l.second;
      order : precedes l.fn.a l.fn.b l.self.trees ≡ precedes l.first l.second l.self.trees;
    }

abbrev pub decreases-loop-above_first : goal.decreases-loop-above_first
decreases-loop-above_first l = depth_of l.first l.self.trees
