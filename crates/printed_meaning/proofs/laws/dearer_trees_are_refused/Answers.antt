use Rattle.printed_meaning.proofs.Whole.{tree_is_dear}
use Rattle.printed_meaning.proofs.laws.dearer_trees_are_refused.Goals as goal

pub returns : goal.returns
returns c = tree_is_dear
