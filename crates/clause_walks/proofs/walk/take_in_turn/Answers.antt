use Rattle.std.proofs.Common.{[], None}
use Rattle.std.proofs.lemmas.Result.{err_from_is_err_and}
use Rattle.evaluation.proofs.Each.{goes_on, stops}
use Rattle.clause_walks.specs.Walked.{for_one, with_variables}
use Rattle.clause_walks.proofs.walk.take_in_turn.Goals as goal

pub returns-in_err-take_in_its_turn : goal.returns-in_err-take_in_its_turn
returns-in_err-take_in_its_turn g c =
    let at = c.args.at_tuple.now in
    let p = err_from_is_err_and c.from_residual.result c.from_residual.ensures.1 in
    rw (p.1, p.2)
    (stops (g.A.AtTuple.fits at) (λ i s x. for_one c.args.variable.now None [] (g.A.AtTuple.means at) (with_variables c.args.others.now (g.A.AtTuple.env at)) i s x) _ _ _ _ _ _ c.take_in_its_turn.new.run c.item-item.result _ c.loop-item.invariant.1 c.loop-item-test.true c.item-item.is (c.in_err-take_in_its_turn.ensures.gives c.loop-item.item-index))

pub loop-item-preserved : goal.loop-item-preserved
loop-item-preserved g c =
    let at = c.args.at_tuple.now in (
      c.in_ok-take_in_its_turn.ensures.serves,
      goes_on (g.A.AtTuple.fits at) (λ i s x. for_one c.args.variable.now None [] (g.A.AtTuple.means at) (with_variables c.args.others.now (g.A.AtTuple.env at)) i s x) _ _ _ _ _ _ _ _ c.item-item.result c.loop-item.invariant.1 c.loop-item-test.true c.item-item.is (c.in_ok-take_in_its_turn.ensures.gives c.loop-item.item-index),
    )
