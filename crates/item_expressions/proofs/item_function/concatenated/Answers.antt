use Rattle.item_expressions.proofs.Comparing.{literal_there}
use Rattle.item_expressions.proofs.item_function.concatenated.Goals as goal

pub printed_item-requires-2 : goal.printed_item-requires-2
printed_item-requires-2 c = record { read = c.unread.ensures.read _ (literal_there _ _ c.requires.literal) }
