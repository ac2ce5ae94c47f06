use Rattle.query_operators.proofs.operators.compared_with.Goals as goal

pub compared_items-requires-clause-other : goal.compared_items-requires-clause-other
compared_items-requires-clause-other c = c.unread-other.ensures.read _ c.requires.other

pub compared_each-requires-clause-other : goal.compared_each-requires-clause-other
compared_each-requires-clause-other c = c.unread-other.ensures.read _ c.requires.other
