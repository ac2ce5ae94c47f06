use Rattle.std.proofs.Common.{◌∙◌, sym}
use Rattle.learner.proofs.Placing.{insert_counted, tallies_insert}
use Rattle.learner.proofs.Tallying.{nothing_there}
use Rattle.learner.proofs.tallies.make_poll.Goals as goal

pub returns-in-Ok-clause-same : goal.returns-in-Ok-clause-same
returns-in-Ok-clause-same c = rw (c.in-Ok.ensures.entries, c.new.ensures) (tallies_insert c.args.position _ (nothing_there _ (sym c.contains_key.ensures ∙ c.if-contains_key.false)))

pub returns-in-Ok-clause-counted : goal.returns-in-Ok-clause-counted
returns-in-Ok-clause-counted c = λ n h k. insert_counted n h c.args.position _ _ c.requires.least (nothing_there _ (sym c.contains_key.ensures ∙ c.if-contains_key.false)) (rw c.new.ensures at c.in-Ok.ensures.entries) (λ q. rw c.new.ensures at (c.in-Ok.ensures.updates.0 q)) k
