use Rattle.std.proofs.Common.{length}
use Rattle.query_rules.proofs.Settled.{Wanted}
use Rattle.query_rules.proofs.query.+single.Given as goal

abbrev pub decreases-single : goal.decreases-single
decreases-single l = l.depth

abbrev pub invariant-loop-alloc : goal.invariant-loop-alloc
invariant-loop-alloc l = Wanted l.level l.depth l.fn.tokens l.forms l.tokens

abbrev pub decreases-loop-alloc : goal.decreases-loop-alloc
decreases-loop-alloc l = length l.tokens
