use Rattle.std.proofs.Common.{◌+◌, ap, arith, length}
use Rattle.std.proofs.lemmas.Grind.{common_steps}
use Rattle.std.proofs.lemmas.Result.{err_from_is_err_and}
use Rattle.query_meaning.specs.Environment.{no_environment}
use Rattle.query_meaning.specs.Meaning.{mean}
use Rattle.query_meaning.specs.Paths.{kept}
use Rattle.evaluation.specs.Gives.{Stand}
use Rattle.evaluation.proofs.Each.{goes_on, stops, ends}
use Rattle.query_paths.proofs.filters.told.Goals as goal

pub and_told-requires-clause-item : goal.and_told-requires-clause-item
and_told-requires-clause-item c = let so_far = c.loop-item.invariant.1.1 no_environment in grind (arith, common_steps, so_far)

pub and_told-requires-clause-stand : goal.and_told-requires-clause-stand
and_told-requires-clause-stand c = (c.loop-item.invariant.1.1 no_environment).fine

pub returns-in_err-kept-clause-kept : goal.returns-in_err-kept-clause-kept
returns-in_err-kept-clause-kept c = λ env.
    let p = err_from_is_err_and c.from_residual.result c.from_residual.ensures.1 in
    let size = length c.args.items.now in
    rw (p.1, p.2) (stops Stand (kept (mean c.args.function.now.expression) env size) _ _ _ _ _ _ c.and_told.new.run c.item-item.result _ (c.loop-item.invariant.1.1 env) c.loop-item-test.true c.item-item.is
    (rw c.loop-item.invariant.0 at (c.in_err-kept.ensures.kept env size)))

pub loop-item-preserved : goal.loop-item-preserved
loop-item-preserved c =
    let few = c.in_ok-kept.ensures.few in
    let so_far = c.loop-item.invariant.1.0 in
    let size = length c.args.items.now in (
      ap (λ n. n + 1) c.loop-item.invariant.0,
      (
        omega (arith, few, so_far),
        λ env.
            goes_on Stand (kept (mean c.args.function.now.expression) env size) _ _ _ _ _ _ _ c.and_told.new.run c.item-item.result (c.loop-item.invariant.1.1 env) c.loop-item-test.true c.item-item.is
            (rw c.loop-item.invariant.0 at (c.in_ok-kept.ensures.kept env size)),
      ),
    )

pub returns-clause-kept : goal.returns-clause-kept
returns-clause-kept c = λ env.
    ends Stand (kept (mean c.args.function.now.expression) env (length c.args.items.now)) _ _ _ _ _ _ (c.loop-item.invariant.1.1 env) c.loop-item-test.false
