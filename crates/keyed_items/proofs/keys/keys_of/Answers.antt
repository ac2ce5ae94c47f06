use Rattle.std.proofs.Common.{◌∙◌, ap, arith, subst, sym}
use Rattle.std.proofs.lemmas.Result.{err_from_is_err_and}
use Rattle.query_meaning.specs.Meaning.{mean}
use Rattle.query_meaning.specs.Running.{Run}
use Rattle.evaluation.specs.Gives.{Any}
use Rattle.evaluation.proofs.Each.{ends, goes_on, stops}
use Rattle.item_expressions.specs.Subjects.{OfSubject, StandsFor}
use Rattle.keyed_items.specs.Keyed.{and_key}
use Rattle.keyed_items.proofs.keys.keys_of.Goals as goal

pub returns-in_err-found-clause-keys : goal.returns-in_err-found-clause-keys
returns-in_err-found-clause-keys c = λ env stands.
    let P : OfSubject → Type 0 = λ f. StandsFor f.subject c.args.item.now.item.now env in
    let p = err_from_is_err_and c.from_residual.result c.from_residual.ensures.1 in
    rw (p.1, p.2)
    (stops Any (λ _ given (f : OfSubject). and_key env given (mean f.expression)) _ _ _ _ _ _ c.with_key_of.new.run c.function-item.result _ (c.loop-function.invariant.1.1 env stands) c.loop-function-test.true c.function-item.is
    (c.in_err-found.ensures.key env (subst P (sym c.function-item.is) (stands c.loop-function.function-index c.function-item.result c.loop-function-test.true))))

pub loop-function-preserved : goal.loop-function-preserved
loop-function-preserved c = (
  c.in_ok-found.ensures.same ∙ ap over c.loop-function.invariant.0,
  (
    omega (arith, c.in_ok-found.ensures.width, c.loop-function.invariant.1.0),
    λ env stands.
        let P : OfSubject → Type 0 = λ f. StandsFor f.subject c.args.item.now.item.now env in
        goes_on Any (λ _ given (f : OfSubject). and_key env given (mean f.expression)) _ _ _ _ _ _ _ _ c.function-item.result (c.loop-function.invariant.1.1 env stands) c.loop-function-test.true c.function-item.is
        (c.in_ok-found.ensures.key env (subst P (sym c.function-item.is) (stands c.loop-function.function-index c.function-item.result c.loop-function-test.true))),
  ),
)
  where
    over : Run → Run
    over run = record run { work = c.with_key_of.new.run.work }

pub returns-clause-keys : goal.returns-clause-keys
returns-clause-keys c = λ env stands.
    ends Any (λ _ given (f : OfSubject). and_key env given (mean f.expression)) _ _ _ _ _ _ (c.loop-function.invariant.1.1 env stands) c.loop-function-test.false
