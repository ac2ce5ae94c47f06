use Rattle.std.proofs.Common.{arith, length}
use Rattle.std.proofs.lemmas.Grind.{common_steps}
use Rattle.std.proofs.lemmas.Result.{err_from_is_err_and}
use Rattle.query_meaning.specs.Environment.{no_environment}
use Rattle.query_meaning.specs.Meaning.{mean}
use Rattle.query_meaning.specs.Paths.{kept}
use Rattle.evaluation.specs.Gives.{Stand}
use Rattle.evaluation.proofs.Each.{goes_on, stops, ends}
use Rattle.query_paths.proofs.filters.compared.Goals as goal

pub and_compared-requires-clause-item : goal.and_compared-requires-clause-item
and_compared-requires-clause-item c = let so_far = c.loop-item.invariant.1 no_environment in grind (arith, common_steps, so_far)

pub and_compared-requires-clause-stand : goal.and_compared-requires-clause-stand
and_compared-requires-clause-stand c = (c.loop-item.invariant.1 no_environment).fine

pub returns-in_err-kept-clause-kept : goal.returns-in_err-kept-clause-kept
returns-in_err-kept-clause-kept c = λ env.
    let p = err_from_is_err_and c.from_residual.result c.from_residual.ensures.1 in
    let size = length c.args.items.now in
    rw (p.1, p.2) (stops Stand (kept (mean c.args.comparison.now.expression) env size) _ _ _ _ _ _ c.and_compared.new.run c.item-item.result _ (c.loop-item.invariant.1 env) c.loop-item-test.true c.item-item.is
    (c.in_err-kept.ensures.kept env size c.loop-item.item-index))

pub loop-item-preserved : goal.loop-item-preserved
loop-item-preserved c =
    let few = c.in_ok-kept.ensures.few in
    let size = length c.args.items.now in (
      omega (arith, few),
      λ env.
          goes_on Stand (kept (mean c.args.comparison.now.expression) env size) _ _ _ _ _ _ _ c.and_compared.new.run c.item-item.result (c.loop-item.invariant.1 env) c.loop-item-test.true c.item-item.is
          (c.in_ok-kept.ensures.kept env size c.loop-item.item-index),
    )

pub returns-clause-kept : goal.returns-clause-kept
returns-clause-kept c = λ env.
    ends Stand (kept (mean c.args.comparison.now.expression) env (length c.args.items.now)) _ _ _ _ _ _ (c.loop-item.invariant.1 env) c.loop-item-test.false
