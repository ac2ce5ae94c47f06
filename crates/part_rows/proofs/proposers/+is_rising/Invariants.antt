-- it goes on with a shorter list
use Rattle.std.proofs.Common.{length}
use Rattle.part_rows.proofs.proposers.+is_rising.Given as goal

abbrev pub decreases-is_rising : goal.decreases-is_rising
decreases-is_rising l = length l.learnt.now
