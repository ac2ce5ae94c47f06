use Rattle.paxos.proofs.Change.{change_told}
use Rattle.paxos.proofs.change_of_leader.Goals as goal

pub returns : goal.returns
returns c = change_told
