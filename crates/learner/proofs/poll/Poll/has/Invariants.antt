use Rattle.learner.proofs.Voting.{IsNotAmong}
use Rattle.learner.proofs.poll.Poll.has.Given as goal

abbrev pub invariant-loop-voters : goal.invariant-loop-voters
invariant-loop-voters l = IsNotAmong l.vote l.voters-items l.voters-index
