use Rattle.paxq_run.specs.Sites.{GoesOn}
use Rattle.paxq_run.proofs.lone.take_own.Given as goal

abbrev pub invariant-loop-sent : goal.invariant-loop-sent
invariant-loop-sent g l = GoesOn l.initial.site l.site
