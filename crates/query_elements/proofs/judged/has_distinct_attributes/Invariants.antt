use Rattle.std.proofs.Common.{◌≡◌, length}
use Rattle.data_model.specs.Tidy.{has_distinct_names}
use Rattle.data_model.specs.Tree.{all_of}
use Rattle.query_meaning.specs.Content.{attributes}
use Rattle.query_elements.proofs.Distinct.{is_distinct_after}
use Rattle.query_elements.proofs.judged.has_distinct_attributes.Given as goal

-- what is left decides, with the names that were met
abbrev pub invariant-loop-tree : goal.invariant-loop-tree
invariant-loop-tree l = is_distinct_after l.names (all_of l.rest) ≡ has_distinct_names (attributes (all_of l.trees))

abbrev pub decreases-loop-tree : goal.decreases-loop-tree
decreases-loop-tree l = length l.rest
