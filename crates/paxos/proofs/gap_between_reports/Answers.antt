use Rattle.paxos.proofs.Change.{gap_filled}
use Rattle.paxos.proofs.gap_between_reports.Goals as goal

pub returns-clause-proposed : goal.returns-clause-proposed
returns-clause-proposed c = gap_filled
