use Rattle.std.proofs.Common.{length}
use Rattle.member.proofs.hearing.+last_position.Given as goal

abbrev pub decreases-last_position : goal.decreases-last_position
decreases-last_position l = length l.entries.now
