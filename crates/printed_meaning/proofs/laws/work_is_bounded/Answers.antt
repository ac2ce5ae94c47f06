use Rattle.printed_meaning.proofs.Bounds.{bound, enough}
use Rattle.printed_meaning.proofs.laws.work_is_bounded.Goals as goal

pub returns-clause-bound : goal.returns-clause-bound
returns-clause-bound c = bound

pub returns-clause-enough : goal.returns-clause-enough
returns-clause-enough c = enough
