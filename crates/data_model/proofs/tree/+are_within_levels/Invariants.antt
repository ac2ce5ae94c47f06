use Rattle.std.proofs.Common.{◌≡◌, nat_le, drop}
use Rattle.data_model.specs.Tree.{all_of}
use Rattle.data_model.specs.Trees.{height}
use Rattle.data_model.proofs.tree.+are_within_levels.Given as goal

abbrev pub decreases-are_within_levels : goal.decreases-are_within_levels
decreases-are_within_levels l = l.levels

-- what is left decides
abbrev pub invariant-loop-tree : goal.invariant-loop-tree
invariant-loop-tree l = nat_le (height (all_of (drop l.tree-index l.trees))) l.levels ≡ nat_le (height (all_of l.fn.trees)) l.levels
