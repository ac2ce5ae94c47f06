use Rattle.item_expressions.proofs.each.read_if.Goals as goal

pub returns-else-reads : goal.returns-else-reads
returns-else-reads c = (c.unread.ensures.item, c.unread.ensures.read _ c.requires.there)
