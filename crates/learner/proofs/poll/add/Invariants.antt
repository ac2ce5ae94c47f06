use Rattle.std.proofs.Common.{◌≡◌}
use Rattle.learner.proofs.Voting.{IsNotAmong}
use Rattle.learner.proofs.poll.add.Given as goal

abbrev pub invariant-loop-heard : goal.invariant-loop-heard
invariant-loop-heard l = record { same : l.voters ≡ l.initial.voters; others : IsNotAmong l.vote l.voters l.heard-index }
