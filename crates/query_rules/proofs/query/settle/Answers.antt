use Rattle.std.proofs.lemmas.Result.{err_from_is_err_and}
use Rattle.query_rules.proofs.Settled.{reached_here, reached_as, reached_next, settles_read, settles_waits, settles_fault, since_waits, shrunk}
use Rattle.query_rules.proofs.query.settle.Goals as goal

pub loop-progress-init : goal.loop-progress-init
loop-progress-init c = reached_here _ _ _

pub returns-in-Waits-clause-means : goal.returns-in-Waits-clause-means
returns-in-Waits-clause-means c = settles_waits _ _ _ _ _ _ _ (reached_as _ c.loop-progress.invariant c.in-Waits.is) c.in_ok-push-in-Waits.ensures.ok

pub returns-in-Waits-clause-nearer : goal.returns-in-Waits-clause-nearer
returns-in-Waits-clause-nearer c = let h = reached_as _ c.loop-progress.invariant c.in-Waits.is in since_waits _ _ _ _ h.since

pub returns-in-None-clause-means : goal.returns-in-None-clause-means
returns-in-None-clause-means c = settles_read _ _ _ _ _ _ (reached_as _ c.loop-progress.invariant c.in-Read.is) c.in-None.ensures.0

pub returns-in_err-progress-in-Some-clause-means : goal.returns-in_err-progress-in-Some-clause-means
returns-in_err-progress-in-Some-clause-means c =
    let p = err_from_is_err_and c.from_residual-in_err-progress-in-Some.result c.from_residual-in_err-progress-in-Some.ensures.1 in
    rw (p.1, p.2) (settles_fault _ _ _ _ _ _ _ _ _ (reached_as _ c.loop-progress.invariant c.in-Read.is) c.in-Some.ensures c.in_err-progress-in-Some.ensures)

pub loop-progress-preserved : goal.loop-progress-preserved
loop-progress-preserved c = reached_next _ _ _ _ _ _ _ _ _ _ (reached_as _ c.loop-progress.invariant c.in-Read.is) c.in-Some.ensures c.in_ok-progress-in-Some.ensures

pub loop-progress-smaller : goal.loop-progress-smaller
loop-progress-smaller c = shrunk _ _ _ c.in-Some.ensures
