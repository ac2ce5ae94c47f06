use Rattle.level_runs.proofs.Runs.{same_store}
use Rattle.level_runs.proofs.laws.stores_of_level_one.Goals as goal

pub returns : goal.returns
returns c = same_store
