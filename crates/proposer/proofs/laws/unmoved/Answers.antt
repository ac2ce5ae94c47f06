use Rattle.proposer.proofs.Learned.{unmoved_knows}
use Rattle.proposer.proofs.laws.unmoved.Goals as goal

pub returns : goal.returns
returns c = unmoved_knows
