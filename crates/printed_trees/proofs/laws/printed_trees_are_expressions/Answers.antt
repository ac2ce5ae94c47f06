use Rattle.printed_trees.proofs.Whole.{item_is_expression}
use Rattle.printed_trees.proofs.laws.printed_trees_are_expressions.Goals as goal

pub returns : goal.returns
returns c = item_is_expression
