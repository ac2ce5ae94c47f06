use Rattle.printed_meaning.proofs.Whole.{tree_is_refused}
use Rattle.printed_meaning.proofs.laws.deeper_trees_are_refused.Goals as goal

pub returns : goal.returns
returns c = tree_is_refused
