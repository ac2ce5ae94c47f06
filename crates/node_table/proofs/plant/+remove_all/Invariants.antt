use Rattle.std.proofs.Common.{◌≡◌, ◌<◌, ℕ, None, take}
use Rattle.data_model.specs.Trees.{count, size}
use Rattle.data_model.specs.Tree.{all_of}
use Rattle.node_table.specs.Rows.{row_of}
use Rattle.node_table.proofs.plant.+remove_all.Given as goal

abbrev pub decreases-remove_all : goal.decreases-remove_all
decreases-remove_all l = size (all_of l.trees.now)

-- the first trees are removed
abbrev pub invariant-loop-tree : goal.invariant-loop-tree
invariant-loop-tree l =
    record {
      removed : (i : ℕ) → 0 < count i (all_of (take l.tree-index l.trees)) → row_of l.rows i ≡ None;
      same : (i : ℕ) → count i (all_of l.trees) ≡ 0 → row_of l.rows i ≡ row_of l.initial.rows i;
    }
