use Rattle.learner.proofs.Placing.{drop_counted, tallies_remove}
use Rattle.learner.proofs.tallies.drop_empty.Goals as goal

pub returns-then-is_empty-clause-same : goal.returns-then-is_empty-clause-same
returns-then-is_empty-clause-same c = rw c.remove.ensures.entries (tallies_remove c.args.position _ (c.is_empty.ensures c.if-is_empty.true))

pub returns-then-is_empty-clause-counted : goal.returns-then-is_empty-clause-counted
returns-then-is_empty-clause-counted c = λ n h k. drop_counted n h c.args.position _ _ (c.is_empty.ensures c.if-is_empty.true) c.remove.ensures.entries c.remove.ensures.updates.0 k
