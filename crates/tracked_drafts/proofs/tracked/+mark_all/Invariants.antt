use Rattle.std.proofs.Common.{take}
use Rattle.data_model.specs.Trees.{size}
use Rattle.data_model.specs.Tree.{all_of}
use Rattle.tracked_drafts.specs.Tests.{AllAmong, Begins}
use Rattle.tracked_drafts.proofs.tracked.+mark_all.Given as goal

abbrev pub decreases-mark_all : goal.decreases-mark_all
decreases-mark_all l = size (all_of l.trees.now)

-- the first trees are noted
abbrev pub invariant-loop-tree : goal.invariant-loop-tree
invariant-loop-tree l = Begins l.fn.touched.keys l.touched.keys × AllAmong l.touched.keys (all_of (take l.tree-index l.trees))
