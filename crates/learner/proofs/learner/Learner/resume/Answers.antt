use Rattle.learner.proofs.Resuming.{resumed_heard}
use Rattle.learner.proofs.learner.Learner.resume.Goals as goal

pub returns-clause-heard : goal.returns-clause-heard
returns-clause-heard c = rw c.new.ensures (resumed_heard c.args.members c.in_ok-placed.field-0 c.args.values.now c.in_ok-placed.ensures.placed)
