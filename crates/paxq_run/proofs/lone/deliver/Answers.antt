use Rattle.paxq_run.proofs.Sites.{goes_through}
use Rattle.paxq_run.proofs.lone.deliver.Goals as goal
use Rattle.paxq_run.proofs.lone.deliver.Goals.{then-is_own+in_ok-take_own, else-is_own}

pub loop-sent-preserved : goal.loop-sent-preserved
loop-sent-preserved g c =
    elim c.if-is_own.branch [
      | then-is_own+in_ok-take_own w ↦ rw w.site-is (goes_through _ _ _ c.loop-sent.invariant w.in_ok-take_own.ensures)
      | else-is_own w ↦ rw w.site-is c.loop-sent.invariant
    ]

pub returns : goal.returns
returns g c = goes_through _ _ _ c.in_ok-outbox.ensures c.loop-sent.invariant
