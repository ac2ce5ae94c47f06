-- it goes on with a shorter list
use Rattle.std.proofs.Common.{length}
use Rattle.part_rows.proofs.proposers.+are_between.Given as goal

abbrev pub decreases-are_between : goal.decreases-are_between
decreases-are_between l = length l.entries.now
