use Rattle.query_laws.proofs.Standing.{known}
use Rattle.query_laws.proofs.laws.calls_are_known.Goals as goal

pub returns : goal.returns
returns c = known
