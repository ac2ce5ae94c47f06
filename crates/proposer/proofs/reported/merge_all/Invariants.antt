use Rattle.std.proofs.Common.{length}
use Rattle.proposer.proofs.Merging.{Merges}
use Rattle.proposer.proofs.reported.merge_all.Given as goal

abbrev pub decreases-loop-entry : goal.decreases-loop-entry
decreases-loop-entry l = length l.left.items

abbrev pub invariant-loop-entry : goal.invariant-loop-entry
invariant-loop-entry l = Merges l.fn.entries.items l.left.items l.fn.reports l.reports
