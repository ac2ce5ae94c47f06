use Rattle.std.proofs.lemmas.Result.{err_from_is_err_and}
use Rattle.query_meaning.specs.Meaning.{mean}
use Rattle.evaluation.specs.Gives.{Stand}
use Rattle.query_control.specs.Operations.{operation_of, and_operation}
use Rattle.evaluation.proofs.Each.{goes_on, stops_mapped, ends_mapped}
use Rattle.query_control.proofs.forms.Forms.operated_in_turn.Goals as goal

pub loop-operation-preserved : goal.loop-operation-preserved
loop-operation-preserved g c =
    rw c.made-given.ensures (goes_on _ _ _ _ _ _ _ _ _ _ c.operation-item.result c.loop-operation.invariant c.loop-operation-test.true c.operation-item.is (rw c.items.ensures at c.in_ok-items.ensures))

pub returns-in_err-items : goal.returns-in_err-items
returns-in_err-items g c =
    let p = err_from_is_err_and c.from_residual.result c.from_residual.ensures.1 in
    rw (p.1, p.2) (stops_mapped Stand (λ _. and_operation c.args.env.now) (operation_of mean) _ _ _ _ _ _ c.and_operation.new.run c.operation-item.result _ c.loop-operation.invariant c.loop-operation-test.true c.operation-item.is (rw c.items.ensures at c.in_err-items.ensures))

pub returns : goal.returns
returns g c = rw c.in_ok-into_items.ensures (ends_mapped Stand (λ _. and_operation c.args.env.now) (operation_of mean) _ _ _ _ _ _ c.loop-operation.invariant c.loop-operation-test.false)
