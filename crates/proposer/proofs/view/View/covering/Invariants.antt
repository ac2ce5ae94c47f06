use Rattle.std.proofs.Common.{◌≡◌, ◌≤◌}
use Rattle.std.specs.Prelude.{nat_le}
use Rattle.ballots.specs.Ballot.{count}
use Rattle.proposer.specs.Views.{cover_in}
use Rattle.proposer.proofs.view.View.covering.Given as goal

abbrev pub invariant-loop-before : goal.invariant-loop-before
invariant-loop-before l = (l.found ≡ count l.before (λ m. nat_le l.position (cover_in l.self m))) × (l.found ≤ l.before)
