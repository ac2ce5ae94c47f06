use Rattle.query_laws.proofs.Standing.{placed}
use Rattle.query_laws.proofs.laws.updates_are_placed.Goals as goal

pub returns : goal.returns
returns c = placed
