use Rattle.std.proofs.Common.{◌≡◌, ◌≢◌, ◌+◌, ◌≤◌, ◌<◌, true, false, ℕ, IsSome}
use Rattle.data_model.specs.Trees.{find}
use Rattle.data_model.specs.Order.{precedes}
use Rattle.data_model.specs.Walks.{depth_of}
use Rattle.trees.proofs.forest.Forest.lifted.Given as goal

abbrev pub invariant-loop : goal.invariant-loop
invariant-loop l =
    record {
      there : IsSome (find l.at l.self.trees);
      level : depth_of l.at l.self.trees + l.counter ≡ depth_of l.fn.id l.self.trees;
      own : l.counter ≡ 0 → l.at ≡ l.fn.id;
      above : 0 < l.counter → (precedes l.at l.fn.id l.self.trees ≡ true) × (precedes l.fn.id l.at l.self.trees ≡ false);
      order : (other : ℕ) → IsSome (find other l.self.trees) → depth_of other l.self.trees ≤ depth_of l.at l.self.trees → other ≢ l.at
          → (precedes l.fn.id other l.self.trees ≡ precedes l.at other l.self.trees) × (precedes other l.fn.id l.self.trees ≡ precedes other l.at l.self.trees);
    }
