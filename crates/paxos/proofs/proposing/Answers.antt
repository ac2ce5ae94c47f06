use Rattle.paxos.proofs.Stopping.{went_on}
use Rattle.paxos.proofs.proposing.Goals as goal

pub returns : goal.returns
returns c = went_on
