use Rattle.std.proofs.Common.{◌≡◌}
use Rattle.data_model.specs.Trees.{find}
use Rattle.data_model.specs.Tidy.{has_distinct_names}
use Rattle.name_sets.proofs.Distinct.{is_distinct_after}
use Rattle.node_plans.specs.Splices.{rest_of}
use Rattle.apply.proofs.Attributes.{attributes_in}
use Rattle.apply.proofs.names.is_named.Given as goal

-- what is left of the attributes decides, with the names that were met
abbrev pub invariant-loop-attribute : goal.invariant-loop-attribute
invariant-loop-attribute l = is_distinct_after l.names (rest_of l.attribute-index (attributes_in (find l.fn.id l.draft.draft.after))) ≡ has_distinct_names (attributes_in (find l.fn.id l.draft.draft.after))
