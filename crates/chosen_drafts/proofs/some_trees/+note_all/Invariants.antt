use Rattle.std.proofs.Common.{◌≡◌, ◌<◌, ℕ, true, take}
use Rattle.data_model.specs.Trees.{count, size}
use Rattle.data_model.specs.Tree.{all_of}
use Rattle.pending.specs.Compatible.{is_among}
use Rattle.chosen_drafts.specs.Noting.{Notes}
use Rattle.chosen_drafts.proofs.some_trees.+note_all.Given as goal

abbrev pub decreases-note_all : goal.decreases-note_all
decreases-note_all l = size (all_of l.trees.now)

-- the first trees are noted
abbrev pub invariant-loop-tree : goal.invariant-loop-tree
invariant-loop-tree l = record {
  notes : Notes l.fn.nodes.keys l.nodes.keys (all_of (take l.tree-index l.trees));
  noted : (i : ℕ) → 0 < count i (all_of (take l.tree-index l.trees)) → is_among l.nodes.keys i ≡ true;
}
