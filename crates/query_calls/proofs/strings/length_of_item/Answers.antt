use Rattle.query_calls.proofs.strings.length_of_item.Goals as goal

pub item_text-requires : goal.item_text-requires
item_text-requires c = record { read = c.unread.ensures.read _ c.requires.there }
