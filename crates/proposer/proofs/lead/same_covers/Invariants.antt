use Rattle.std.proofs.Common.{◌≡◌, replicate}
use Rattle.proposer.proofs.lead.same_covers.Given as goal

abbrev pub invariant-loop-member : goal.invariant-loop-member
invariant-loop-member l = l.covers.items ≡ replicate l._member l.cover
