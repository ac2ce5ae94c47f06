use Rattle.std.proofs.Common.{sym, ◌∙◌}
use Rattle.std.proofs.lemmas.Result.{err_from_is_err_and}
use Rattle.evaluation.proofs.Each.{grows_then}
use Rattle.query_control.proofs.Comparing.{around, stands_around}
use Rattle.query_control.proofs.Deciding.{fails, found, none_left, seeks_on}
use Rattle.query_control.proofs.quantified.compared_until_decided.Goals as goal

pub loop-item-preserved : goal.loop-item-preserved
loop-item-preserved c =
    let s = c.args.comparison.now.subject in
    let x = c.item-item.result in
    let gives = c.in_ok-value.ensures in
    let grows = (gives (around s x) (stands_around s x)).1.0 in
    let goes = sym c.decides.ensures ∙ c.if-decides.false in
    (grows_then _ _ _ c.loop-item.invariant.0 grows, λ variable env is. seeks_on _ _ _ _ _ _ _ _ _ (c.loop-item.invariant.1 variable env is) c.loop-item-test.true c.item-item.is (gives _ (is _ env)) goes)

pub returns-in_err-value : goal.returns-in_err-value
returns-in_err-value c = λ variable env is.
    let p = err_from_is_err_and c.from_residual.result c.from_residual.ensures.1 in
    rw (p.1, p.2) (fails _ _ _ _ _ _ c.compared_in_turn.new.run _ _ (c.loop-item.invariant.1 variable env is) c.loop-item-test.true c.item-item.is (c.in_err-value.ensures _ (is _ env)))

pub returns-then-decides : goal.returns-then-decides
returns-then-decides c = λ variable env is.
    found _ _ _ _ _ _ _ _ _ (c.loop-item.invariant.1 variable env is) c.loop-item-test.true c.item-item.is (c.in_ok-value.ensures _ (is _ env)) (sym c.decides.ensures ∙ c.if-decides.true)

pub returns : goal.returns
returns c = λ variable env is.
    rw c.undecided.ensures (none_left _ _ _ _ _ _ (c.loop-item.invariant.1 variable env is) c.loop-item-test.false)
