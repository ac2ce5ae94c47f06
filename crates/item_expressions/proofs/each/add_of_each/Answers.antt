use Rattle.std.proofs.Common.{◌∙◌, ap, subst, sym}
use Rattle.std.proofs.lemmas.Result.{err_from_is_err_and}
use Rattle.query_meaning.specs.Running.{Run, trees_of}
use Rattle.evaluation.specs.Gives.{Stand}
use Rattle.evaluation.proofs.Each.{ends, goes_on, stops}
use Rattle.item_expressions.specs.Looped.{returned_of}
use Rattle.item_expressions.specs.Others.{IsTest}
use Rattle.item_expressions.proofs.each.add_of_each.Goals as goal

pub returns-in_err-add_of : goal.returns-in_err-add_of
returns-in_err-add_of c = λ condition variable others env is means around.
    let P : Run → Type 0 = λ run. IsTest (trees_of run) condition variable others c.args.test.now in
    let p = err_from_is_err_and c.from_residual.result c.from_residual.ensures.1 in
    rw (p.1, p.2)
    (stops Stand (λ _. returned_of condition c.args.function.now.expression variable env) _ _ _ _ _ _ c.add_of.new.run c.item-item.result _ (c.loop-item.invariant.1.1 condition variable others env is means around) c.loop-item-test.true c.item-item.is
    (c.in_err-add_of.ensures.gives condition variable others env (subst P (sym c.loop-item.invariant.0) is) means around))

pub loop-item-preserved : goal.loop-item-preserved
loop-item-preserved c = (
  c.in_ok-add_of.ensures.same ∙ ap over c.loop-item.invariant.0,
  (
    c.in_ok-add_of.ensures.stand,
    λ condition variable others env is means around.
        let P : Run → Type 0 = λ run. IsTest (trees_of run) condition variable others c.args.test.now in
        goes_on Stand (λ _. returned_of condition c.args.function.now.expression variable env) _ _ _ _ _ _ _ _ c.item-item.result (c.loop-item.invariant.1.1 condition variable others env is means around) c.loop-item-test.true c.item-item.is
        (c.in_ok-add_of.ensures.gives condition variable others env (subst P (sym c.loop-item.invariant.0) is) means around),
  ),
)
  where
    over : Run → Run
    over run = record run { turns = c.add_of.new.run.turns; work = c.add_of.new.run.work }

pub returns : goal.returns
returns c = λ condition variable others env is means around.
    ends Stand (λ _. returned_of condition c.args.function.now.expression variable env) _ _ _ _ _ _ (c.loop-item.invariant.1.1 condition variable others env is means around) c.loop-item-test.false
