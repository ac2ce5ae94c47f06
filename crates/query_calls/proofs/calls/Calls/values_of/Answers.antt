use Rattle.std.proofs.lemmas.Result.{err_from_is_err_and}
use Rattle.query_meaning.specs.Meaning.{mean}
use Rattle.evaluation.proofs.Each.{goes_on, stops_mapped, ends_mapped}
use Rattle.query_calls.specs.Arguments.{AllStand, and_argument}
use Rattle.query_calls.proofs.calls.Calls.values_of.Goals as goal

pub loop-argument-preserved : goal.loop-argument-preserved
loop-argument-preserved g c =
    goes_on _ _ _ _ _ _ _ _ _ _ c.argument-item.result c.loop-argument.invariant c.loop-argument-test.true c.argument-item.is c.in_ok-values-2.ensures

pub returns-in_err-values-2 : goal.returns-in_err-values-2
returns-in_err-values-2 g c =
    let p = err_from_is_err_and c.from_residual-in_err-values-2.result c.from_residual-in_err-values-2.ensures.1 in
    rw (p.1, p.2) (stops_mapped AllStand (λ _. and_argument c.args.env.now) mean _ _ _ _ _ _ c.and_value.new.run c.argument-item.result _ c.loop-argument.invariant c.loop-argument-test.true c.argument-item.is c.in_err-values-2.ensures)

pub returns : goal.returns
returns g c = ends_mapped AllStand (λ _. and_argument c.args.env.now) mean _ _ _ _ _ _ c.loop-argument.invariant c.loop-argument-test.false
