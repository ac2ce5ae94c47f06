use Rattle.straight_runs.proofs.Smooth.{smooth_none, smooth_more, smooth_run}
use Rattle.straight_runs.proofs.laws.smooth_runs.Goals as goal

pub returns-clause-none : goal.returns-clause-none
returns-clause-none c = smooth_none

pub returns-clause-more : goal.returns-clause-more
returns-clause-more c = smooth_more

pub returns-clause-are_runs : goal.returns-clause-are_runs
returns-clause-are_runs c = smooth_run
