use Rattle.printed_meaning.proofs.Whole.{tree_is_made}
use Rattle.printed_meaning.proofs.laws.printed_trees_mean_themselves.Goals as goal

pub returns : goal.returns
returns c = tree_is_made
