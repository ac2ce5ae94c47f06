use Rattle.std.proofs.Common.{◌≡◌, ◌≤◌, ◌-◌}
use Rattle.ballots.specs.Ballot.{count, has_member}
use Rattle.ballots.proofs.ballot.Members.is_majority.Given as goal

abbrev pub invariant-loop-member : goal.invariant-loop-member
invariant-loop-member l = record { found : l.found ≡ count (l.member - 1) (has_member l.mask); bound : l.found ≤ l.member - 1 }
