use Rattle.query_calls.proofs.nodes.string_of_item.Goals as goal

pub printed_item-requires : goal.printed_item-requires
printed_item-requires c = record { read = c.unread.ensures.read _ c.requires.there }
