use Rattle.std.proofs.lemmas.Result.{err_from_is_err_and}
use Rattle.query_operators.proofs.Pairs.{each_fail, each_give}
use Rattle.query_operators.proofs.operators.compared_each.Goals as goal

pub returns-in_err-holds : goal.returns-in_err-holds
returns-in_err-holds c =
    let p = err_from_is_err_and c.from_residual.result c.from_residual.ensures.1 in
    rw (p.1, p.2) (each_fail c.args.op c.args.left.now c.args.other.now.item.now c.args.run.now _ c.in_err-holds.ensures.holds)

pub returns : goal.returns
returns c =
    rw c.in_ok-boolean.ensures (each_give c.args.op c.args.left.now c.args.other.now.item.now c.args.run.now c.compare_each.new.run c.in_ok-holds.holds c.in_ok-holds.ensures.holds)
