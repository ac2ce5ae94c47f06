use Rattle.std.proofs.Common.{Ok, Err}
use Rattle.std.proofs.lemmas.Result.{err_from_is_err_and}
use Rattle.evaluation.proofs.Each.{goes_on, stops, ends}
use Rattle.query_paths.specs.Gathered.{IsFewIn, one_found}
use Rattle.query_paths.proofs.Finds.{one_gives}
use Rattle.query_paths.proofs.found.Found.and_all.Goals as goal

pub returns-in_err-add : goal.returns-in_err-add
returns-in_err-add c =
    let p = err_from_is_err_and c.from_residual.result c.from_residual.ensures.1 in
    λ run. rw (p.1, p.2) (stops IsFewIn (λ _. one_found) _ _ run _ _ run run c.item-item.result _ (c.loop-item.invariant run) c.loop-item-test.true c.item-item.is
    (one_gives c.loop-item.found c.item-item.result run (Err c.in_err-add.field-0.0) c.in_err-add.ensures.code tt))

pub loop-item-preserved : goal.loop-item-preserved
loop-item-preserved c = λ run.
    goes_on IsFewIn (λ _. one_found) _ _ run _ _ _ run run c.item-item.result (c.loop-item.invariant run) c.loop-item-test.true c.item-item.is
    (one_gives c.loop-item.found c.item-item.result run (Ok c.add.new.self) c.in_ok-add.ensures.added c.in_ok-add.ensures.few)

pub returns : goal.returns
returns c = λ run. ends IsFewIn (λ _. one_found) _ _ run _ _ run (c.loop-item.invariant run) c.loop-item-test.false
