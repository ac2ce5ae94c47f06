-- A form's parts have less depth than it has; the same expression is evaluated by its form once.
use Rattle.std.proofs.Common.{◌+◌, ◌*◌}
use Rattle.evaluator.proofs.value.+value_of.Given as goal

abbrev pub decreases-value_of : goal.decreases-value_of
decreases-value_of l = 2 * goal.size-value_of l + 1

abbrev pub decreases-value_by_form : goal.decreases-value_by_form
decreases-value_by_form l = 2 * goal.size-value_by_form l
