use Rattle.item_expressions.proofs.Comparing.{literal_there}
use Rattle.item_expressions.proofs.item_comparison.holds_of.Goals as goal

pub compare_items-requires-clause-right : goal.compare_items-requires-clause-right
compare_items-requires-clause-right c = c.unread.ensures.read _ (literal_there _ _ c.requires.literal)
