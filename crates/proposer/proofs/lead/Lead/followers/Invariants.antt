use Rattle.std.proofs.Common.{◌≡◌, ◌≤◌}
use Rattle.std.specs.Prelude.{nat_lt}
use Rattle.ballots.specs.Ballot.{count}
use Rattle.proposer.specs.Terms.{cover_of}
use Rattle.proposer.proofs.lead.Lead.followers.Given as goal

abbrev pub invariant-loop-before : goal.invariant-loop-before
invariant-loop-before l = (l.found ≡ count l.before (λ m. nat_lt l.self.base (cover_of l.self m))) × (l.found ≤ l.before)
