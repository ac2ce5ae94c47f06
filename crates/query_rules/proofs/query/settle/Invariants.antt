use Rattle.std.proofs.Common.{length}
use Rattle.query_rules.proofs.Settled.{Reached}
use Rattle.query_rules.proofs.query.settle.Given as goal

abbrev pub invariant-loop-progress : goal.invariant-loop-progress
invariant-loop-progress l = Reached l.fn.forms l.fn.progress l.fn.tokens l.forms l.progress l.tokens

abbrev pub decreases-loop-progress : goal.decreases-loop-progress
decreases-loop-progress l = length l.forms
