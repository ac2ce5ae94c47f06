use Rattle.std.proofs.Common.{◌≡◌, false, length}
use Rattle.data_model.specs.Tree.{all_of}
use Rattle.copied_content.specs.Merging.{are_apart}
use Rattle.copied_content.proofs.adjacent.are_apart.Given as goal

-- what is left decides, after a text or not
abbrev pub invariant-loop-tree : goal.invariant-loop-tree
invariant-loop-tree l = are_apart l.was_text (all_of l.rest) ≡ are_apart false (all_of l.trees)

abbrev pub decreases-loop-tree : goal.decreases-loop-tree
decreases-loop-tree l = length l.rest
