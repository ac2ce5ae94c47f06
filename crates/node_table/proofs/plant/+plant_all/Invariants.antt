use Rattle.std.proofs.Common.{◌≡◌, ℕ, ◌+◌, take, drop, length, max}
use Rattle.data_model.specs.Trees.{roots, count, size}
use Rattle.data_model.specs.Tree.{all_of}
use Rattle.data_model.specs.Planted.{past}
use Rattle.node_table.specs.Flat.{Holds}
use Rattle.node_table.specs.Rows.{table_of, row_of}
use Rattle.node_table.specs.Labels.{place_of, AreRanked}
use Rattle.node_table.proofs.plant.+plant_all.Given as goal

abbrev pub decreases-plant_all : goal.decreases-plant_all
decreases-plant_all l = size (all_of l.trees.now)

-- the first trees are planted
abbrev pub invariant-loop-tree : goal.invariant-loop-tree
invariant-loop-tree l =
    record {
      ids : l.ids.items ≡ roots (all_of (take l.tree-index l.trees));
      planted : Holds (table_of l.rows) l.parent (all_of (take l.tree-index l.trees));
      place : l.place ≡ l.first + length (roots (all_of (take l.tree-index l.trees)));
      ranked : AreRanked (place_of l.rows) l.first (all_of (take l.tree-index l.trees));
      same : (i : ℕ) → count i (all_of l.trees) ≡ 0 → row_of l.rows i ≡ row_of l.initial.rows i;
      counted : l.planted.nodes + size (all_of (drop l.tree-index l.trees)) ≡ l.initial.planted.nodes + size (all_of l.trees);
      largest : max (l.planted.largest + 1) (past (all_of (drop l.tree-index l.trees))) ≡ max (l.initial.planted.largest + 1) (past (all_of l.trees));
    }
