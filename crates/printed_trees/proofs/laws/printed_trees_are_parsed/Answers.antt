use Rattle.printed_trees.proofs.Whole.{item_is_parsed}
use Rattle.printed_trees.proofs.laws.printed_trees_are_parsed.Goals as goal

pub returns : goal.returns
returns c = item_is_parsed
