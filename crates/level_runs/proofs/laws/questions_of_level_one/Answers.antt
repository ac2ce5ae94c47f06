use Rattle.level_runs.proofs.Runs.{same_answer}
use Rattle.level_runs.proofs.laws.questions_of_level_one.Goals as goal

pub returns : goal.returns
returns c = same_answer
