use Rattle.std.proofs.Common.{◌≡◌, length}
use Rattle.data_model.specs.Tree.{all_of}
use Rattle.query_meaning.specs.Content.{has_attributes_first}
use Rattle.copied_content.proofs.kinds.after_attributes.Given as goal

-- what is left decides
abbrev pub invariant-loop-first : goal.invariant-loop-first
invariant-loop-first l = has_attributes_first (all_of l.rest) ≡ has_attributes_first (all_of l.trees)

abbrev pub decreases-loop-first : goal.decreases-loop-first
decreases-loop-first l = length l.rest
