-- it goes on with a shorter list
use Rattle.std.proofs.Common.{length}
use Rattle.part_rows.proofs.learners.+are_rising.Given as goal

abbrev pub decreases-are_rising : goal.decreases-are_rising
decreases-are_rising l = length l.pairs.now
