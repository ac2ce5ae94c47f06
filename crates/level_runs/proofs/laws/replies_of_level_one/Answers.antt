use Rattle.level_runs.proofs.Runs.{same_replies}
use Rattle.level_runs.proofs.laws.replies_of_level_one.Goals as goal

pub returns : goal.returns
returns c = same_replies
