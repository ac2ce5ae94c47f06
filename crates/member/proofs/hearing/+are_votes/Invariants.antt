use Rattle.std.proofs.Common.{length}
use Rattle.member.proofs.hearing.+are_votes.Given as goal

abbrev pub decreases-are_votes : goal.decreases-are_votes
decreases-are_votes l = length l.entries.now
