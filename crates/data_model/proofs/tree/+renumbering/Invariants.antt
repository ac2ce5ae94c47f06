use Rattle.std.proofs.Common.{◌≡◌, ◌+◌, ◌*◌, ◌≤◌, take, drop}
use Rattle.data_model.specs.Changes.{renumbered}
use Rattle.data_model.specs.Tree.{all_of, tree_size}
use Rattle.data_model.specs.Trees.{append, size}
use Rattle.data_model.proofs.tree.+renumbering.Given as goal

abbrev pub decreases-Tree::renumber : goal.decreases-Tree::renumber
decreases-Tree::renumber l = 2 * tree_size l.self.now

abbrev pub decreases-renumber : goal.decreases-renumber
decreases-renumber l = 2 * size (all_of l.trees.now) + 1

-- what is left to number, from the next identity on
abbrev pub invariant-renumber-loop-tree : goal.invariant-renumber-loop-tree
invariant-renumber-loop-tree l = record {
  numbered : append (all_of (take l.tree-index l.trees)) (renumbered l.next (all_of (drop l.tree-index l.trees))) ≡ renumbered l.fn.first (all_of l.fn.trees);
  next : l.next + size (all_of (drop l.tree-index l.trees)) ≡ l.fn.first + size (all_of l.fn.trees);
  rising : l.fn.first ≤ l.next;
}
