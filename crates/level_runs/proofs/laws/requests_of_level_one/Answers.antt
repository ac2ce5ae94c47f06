use Rattle.level_runs.proofs.Runs.{same_run}
use Rattle.level_runs.proofs.laws.requests_of_level_one.Goals as goal

pub returns : goal.returns
returns c = same_run
