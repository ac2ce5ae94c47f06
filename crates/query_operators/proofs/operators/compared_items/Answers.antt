use Rattle.std.proofs.lemmas.Result.{err_from_is_err_and}
use Rattle.query_operators.proofs.Pairs.{items_fail, items_give}
use Rattle.query_operators.proofs.operators.compared_items.Goals as goal

pub compare_items-requires-clause-left : goal.compare_items-requires-clause-left
compare_items-requires-clause-left c = c.unread.ensures.read _ c.requires.item

pub returns-in_err-holds : goal.returns-in_err-holds
returns-in_err-holds c =
    let p = err_from_is_err_and c.from_residual.result c.from_residual.ensures.1 in
    rw (p.1, p.2) (items_fail c.args.op c.args.item.now c.args.other.now.item.now c.args.run.now _ (rw c.unread.ensures.item at c.in_err-holds.ensures.holds))

pub returns : goal.returns
returns c =
    rw c.in_ok-boolean.ensures
    (items_give c.args.op c.args.item.now c.args.other.now.item.now c.args.run.now c.compare_items.new.run c.in_ok-holds.holds (rw c.unread.ensures.item at c.in_ok-holds.ensures.holds))
