use Rattle.std.proofs.Common.{arith}
use Rattle.std.proofs.lemmas.Result.{err_from_is_err_and}
use Rattle.evaluation.specs.Gives.{Any}
use Rattle.evaluation.proofs.Each.{goes_on, stops, ends}
use Rattle.query_updates.specs.Parts.{deleted}
use Rattle.query_updates.proofs.Deleted.{deleted_gives, deleted_fails}
use Rattle.query_updates.proofs.deletions.delete_all.Goals as goal

pub loop-node-preserved : goal.loop-node-preserved
loop-node-preserved c =
    goes_on Any (λ _. deleted) _ _ _ _ _ _ _ _ c.node-item.result c.loop-node.invariant c.loop-node-test.true c.node-item.is (deleted_gives _ _ _ c.in_ok-add.ensures.added)

pub returns-in_err-add : goal.returns-in_err-add
returns-in_err-add c =
    let p = err_from_is_err_and c.from_residual.result c.from_residual.ensures.1 in
    rw (p.1, p.2) (stops Any (λ _. deleted) _ _ _ _ _ _ c.add.new.self c.node-item.result _ c.loop-node.invariant c.loop-node-test.true c.node-item.is (deleted_fails _ _ _ c.in_err-add.ensures.added))

pub returns : goal.returns
returns c =
    let all = ends Any (λ _. deleted) _ _ _ _ _ _ c.loop-node.invariant c.loop-node-test.false in
    rw c.new.ensures (all.0, (all.1.0, λ k d below. absurd (omega (arith, below))))
